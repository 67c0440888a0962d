use Rattle.std.proofs.Common.{◌≡◌, ◌*◌, ◌≤◌, ◌^◌, ◌+ℤ◌, drop, sum_by, unsigned_abs}
use Rattle.diagram_arena.specs.Table.{Word}
use Rattle.linear_machine.specs.Sums.{sum_of_true}
use Rattle.linear_terms.specs.Weights.{weighed_sum}
use Rattle.linear_terms.proofs.terms.add_terms.Given as goal

abbrev pub invariant-loop-term : goal.invariant-loop-term
invariant-loop-term l = record {
  sums : (w : Word) → (sum_of_true l.bits l.weights w +ℤ weighed_sum l.layout (drop l.term-index l.terms) w) ≡ weighed_sum l.layout l.terms w;
  sizes : sum_by unsigned_abs l.weights ≤ l.term-index * 2 ^ 66;
}
