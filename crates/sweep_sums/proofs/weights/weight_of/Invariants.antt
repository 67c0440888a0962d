use Rattle.std.proofs.Common.{◌≡◌, ◌≤◌, ◌*◌, ◌+ℤ◌, drop, unsigned_abs}
use Rattle.sweep_sums.specs.Weights.{weight_of}
use Rattle.sweep_sums.proofs.weights.weight_of.Given as goal

abbrev pub invariant-loop-term : goal.invariant-loop-term
invariant-loop-term l = record {
  weight : l.weight +ℤ weight_of l.v (drop l.term-index l.terms) ≡ weight_of l.v l.terms;
  small : unsigned_abs l.weight ≤ l.term-index * 1000000000;
}
