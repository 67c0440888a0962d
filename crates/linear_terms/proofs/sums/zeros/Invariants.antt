use Rattle.std.proofs.Common.{◌≡◌, length, sum_by, unsigned_abs}
use Rattle.linear_terms.proofs.sums.zeros.Given as goal

abbrev pub invariant-loop-i : goal.invariant-loop-i
invariant-loop-i l = record { none : sum_by unsigned_abs l.zeros.items ≡ 0; long : length l.zeros.items ≡ l._i }
