use Rattle.std.proofs.Common.{◌↔◌, drop}
use Rattle.sweep_sums.specs.Reaching.{AreWithin, IsWanted, SomeOn, SomeFit}
use Rattle.sweep_sums.specs.Weights.{weights_of}
use Rattle.sweep_sums.proofs.reaching.some_fit.Given as goal

abbrev pub invariant-loop-i : goal.invariant-loop-i
invariant-loop-i l = record {
  carried : SomeOn (IsWanted l.sum l.truth) (drop l.i (weights_of l.sum.terms l.variables)) (drop l.i l.lists) l.sums.items ↔ SomeFit l.sum l.truth l.variables l.lists;
  within : AreWithin l.i l.sums.items;
}
