use Rattle.std.proofs.Common.{◌≡◌, ◌+◌, ◌++◌, drop}
use Rattle.sweep_sums.specs.Reaching.{AreWithin, reached_from}
use Rattle.sweep_sums.proofs.reaching.push_all.Given as goal

abbrev pub invariant-loop-x : goal.invariant-loop-x
invariant-loop-x l = record {
  pushed : l.next.items ++ reached_from l.weight (drop l.x-index l.numbers) l.sum ≡ l.fn.next.items ++ reached_from l.weight l.numbers l.sum;
  within : AreWithin (l.at + 1) l.next.items;
}
