-- How many integers a range has.
use Rattle.std.proofs.Common.{◌≡◌, ℕ, zero, suc, ℤ, pos, ◌+ℤ◌, length, refl, ap}
use Rattle.set_meaning.specs.Sets.{integers_from, integers_between, count_between}

pub length-integers_from : (x : ℤ) (n : ℕ) → length (integers_from x n) ≡ n
length-integers_from x zero = refl
length-integers_from x (suc n) = ap suc (length-integers_from (x +ℤ pos 1) n)

pub size_of_range : (lo hi : ℤ) → length (integers_between lo hi) ≡ count_between lo hi
size_of_range lo hi = length-integers_from lo (count_between lo hi)
