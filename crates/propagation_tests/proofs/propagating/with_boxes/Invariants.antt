use Rattle.std.proofs.Common.{◌≡◌, length}
use Rattle.propagation_tests.specs.Filled.{IsFilled}
use Rattle.propagation_tests.proofs.propagating.with_boxes.Given as goal

abbrev pub invariant-loop-sides : goal.invariant-loop-sides
invariant-loop-sides l = record {
  filled : IsFilled l.p l.layout l.ops l.compiled l.store;
  many : length l.store ≡ l.sides-index;
}
