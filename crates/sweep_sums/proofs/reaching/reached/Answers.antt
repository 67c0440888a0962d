use Rattle.std.proofs.Common.{rules, ◌+◌, ◌*◌, ◌≤◌, ◌^◌, unsigned_abs, FitsSigned, w64}
use Rattle.std.proofs.lemmas.Int.{to_z-of_z}
use Rattle.sweep_sums.proofs.Reached.{reached_end, all_same}
use Rattle.sweep_sums.proofs.reaching.reached.Goals as goal

pub returns-clause-reached : goal.returns-clause-reached
returns-clause-reached c =
    let fits_w : FitsSigned w64 c.args.weight = c.ranges.weight in
    reached_end c.args.weight c.args.numbers.now c.args.sums.now c.loop-sum.next.items c.make_distinct.new.numbers.items c.loop-sum.sum-index c.loop-sum-test.false
    (simp to_z-of_z at c.loop-sum.invariant.reached) c.make_distinct.ensures

pub returns-clause-within : goal.returns-clause-within
returns-clause-within c =
    all_same (λ s. unsigned_abs s ≤ 2 ^ 100 + (c.args.at + 1) * 2 ^ 115) c.loop-sum.next.items c.make_distinct.new.numbers.items c.make_distinct.ensures c.loop-sum.invariant.within
