use Rattle.std.proofs.Common.{◌≡◌, ◌+◌, ◌*◌, ◌≤◌, ◌^◌, ◌+ℤ◌, drop, unsigned_abs}
use Rattle.linear_terms.specs.Weights.{least_sum_of}
use Rattle.linear_terms.proofs.terms.base_of.Given as goal

abbrev pub invariant-loop-term : goal.invariant-loop-term
invariant-loop-term l = record {
  whole : (l.base +ℤ least_sum_of l.kinds (drop l.term-index l.terms)) ≡ l.constant +ℤ least_sum_of l.kinds l.terms;
  size : unsigned_abs l.base ≤ 2 ^ 100 + l.term-index * 2 ^ 93;
}
