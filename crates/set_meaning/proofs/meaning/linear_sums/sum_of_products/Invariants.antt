use Rattle.std.proofs.Common.{◌≡◌, length, pos, neg_ℤ, ◌+ℤ◌, ◌≤ℤ◌}
use Rattle.set_meaning.specs.LinearSums.{sum_of_products}
use Rattle.set_meaning.specs.Sums.{total_of}
use Rattle.set_meaning.proofs.meaning.linear_sums.sum_of_products.Given as goal

-- what is left completes the sum, and there were no more turns than products
abbrev pub invariant-loop-c : goal.invariant-loop-c
invariant-loop-c l = record {
  same : length l.c-iterator.a.rest.now ≡ length l.c-iterator.b.rest.now;
  sum : (total_of l.sum.turns l.sum.rest +ℤ sum_of_products l.c-iterator.a.rest.now l.c-iterator.b.rest.now) ≡ sum_of_products l.cs l.xs;
  down : neg_ℤ (pos (length l.cs)) ≤ℤ (l.sum.turns +ℤ neg_ℤ (pos (length l.c-iterator.a.rest.now)));
  up : (l.sum.turns +ℤ pos (length l.c-iterator.a.rest.now)) ≤ℤ pos (length l.cs);
}
