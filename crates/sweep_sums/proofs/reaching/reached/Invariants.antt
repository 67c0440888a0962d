use Rattle.std.proofs.Common.{◌≡◌, ◌+◌, ◌++◌, drop}
use Rattle.std.specs.List.{flat_map}
use Rattle.sweep_sums.specs.Reaching.{AreWithin, reached_from}
use Rattle.sweep_sums.proofs.reaching.reached.Given as goal

abbrev pub invariant-loop-sum : goal.invariant-loop-sum
invariant-loop-sum l = record {
  reached : l.next.items ++ flat_map (reached_from l.weight l.numbers) (drop l.sum-index l.sums) ≡ flat_map (reached_from l.weight l.numbers) l.sums;
  within : AreWithin (l.at + 1) l.next.items;
}
