use Rattle.std.proofs.Common.{◌+◌}
use Rattle.sweep_states.proofs.Finishing.{finishes_turn, finishes_all, end_occurs}
use Rattle.sweep_states.proofs.read.finish.Goals as goal

pub loop-pair-preserved : goal.loop-pair-preserved
loop-pair-preserved g c =
    finishes_turn (g.T.Shape.rules c.args.filter.now).accept c.args.pairs.now c.loop-pair.pair-index c.pair-item.result c.loop-pair.ends.items c.push_end.new.ends.items
    c.loop-pair-test.true c.pair-item.is c.in_ok-push_end.ensures.taken c.in_ok-push_end.ensures.left c.loop-pair.invariant

pub returns-clause-occur : goal.returns-clause-occur
returns-clause-occur g c =
    let accept = (g.T.Shape.rules c.args.filter.now).accept in
    let all = finishes_all accept c.args.pairs.now c.loop-pair.pair-index c.loop-pair.ends.items c.make_distinct.new.states.items c.loop-pair-test.false c.make_distinct.ensures.same c.loop-pair.invariant in
    end_occurs accept c.args.pairs.now c.make_distinct.new.states.items (g.S.Shape.occurs c.args.shape.now (c.args.from + c.args.count)) (g.T.Shape.occurs c.args.filter.now c.args.count)
    all c.requires.occur

pub returns-clause-only : goal.returns-clause-only
returns-clause-only g c =
    (finishes_all (g.T.Shape.rules c.args.filter.now).accept c.args.pairs.now c.loop-pair.pair-index c.loop-pair.ends.items c.make_distinct.new.states.items c.loop-pair-test.false
    c.make_distinct.ensures.same c.loop-pair.invariant).only

pub returns-clause-every : goal.returns-clause-every
returns-clause-every g c =
    (finishes_all (g.T.Shape.rules c.args.filter.now).accept c.args.pairs.now c.loop-pair.pair-index c.loop-pair.ends.items c.make_distinct.new.states.items c.loop-pair-test.false
    c.make_distinct.ensures.same c.loop-pair.invariant).every
