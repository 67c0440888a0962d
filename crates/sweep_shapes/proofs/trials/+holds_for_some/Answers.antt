use Rattle.std.proofs.Common.{◌≡◌, ◌-◌, length, take, drop, IsTrue, arith}
use Rattle.sweep_shapes.proofs.Trying.{vain_turn, cut_known, none_of_all, empty_tried}
use Rattle.sweep_shapes.proofs.trials.+holds_for_some.Goals as goal

pub loop-x-preserved : goal.loop-x-preserved
loop-x-preserved t c =
    let choices = c.args.choices.now in
    let is = cut_known c.args.values.now choices c.first-item.result c.in-len1-up.len_at_least c.first-item.is c.requires.below c.requires.apart in
    vain_turn c.args.values.now c.loop-x.values c.put.new.values c.holds_for_some.new.values c.first-item.result (take (length choices - 1) (drop 1 choices)) c.items-tried.result.now c.loop-x.x-index
    c.x-item.result c.in_ok-copy-in-len1-up.copy c.args.c.now c.in_ok-found-in-len1-up.found is.within c.loop-x-test.true c.x-item.is c.in_ok-copy-in-len1-up.ensures c.put.ensures
    c.in_ok-found-in-len1-up.ensures.tried c.if-found.false c.in_ok-found-in-len1-up.ensures.others c.loop-x.invariant

pub returns-in_ok-found-in-empty-clause-tried : goal.returns-in_ok-found-in-empty-clause-tried
returns-in_ok-found-in-empty-clause-tried t c =
    let none : length c.args.choices.now ≡ 0 = omega (arith, c.in-empty.len_below) in
    empty_tried c.args.values.now c.args.choices.now c.args.c.now (IsTrue c.in_ok-found-in-empty.found) none c.in_ok-found-in-empty.ensures

pub returns-after-loop-x-clause-tried : goal.returns-after-loop-x-clause-tried
returns-after-loop-x-clause-tried t c =
    let choices = c.args.choices.now in
    let is = cut_known c.args.values.now choices c.first-item.result c.in-len1-up.len_at_least c.first-item.is c.requires.below c.requires.apart in
    none_of_all c.args.values.now c.loop-x.values choices c.first-item.result (take (length choices - 1) (drop 1 choices)) c.items-tried.result.now c.loop-x.x-index c.args.c.now is
    c.items-tried.ensures c.loop-x-test.false c.loop-x.invariant
