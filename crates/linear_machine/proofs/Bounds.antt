-- How far sums of weights go.
use Rattle.std.proofs.Common.{◌≡◌, ℕ, ◌+◌, ◌<◌, Bool, true, false, cond, ℤ, pos, negsuc, neg_ℤ, ◌+ℤ◌, ◌≤ℤ◌, unsigned_abs, List, [], ◌∷◌, sum_by, drop, length, get_or, zero, suc, ap, ◌∙◌, arith, drop-cons}
use Rattle.std.specs.Int.{int_min, int_max}
use Rattle.std.proofs.lemmas.Int.{ints, clamps}
use Rattle.std.proofs.lemmas.List.Sums.{sum_by-cons}
use Rattle.linear_machine.specs.Steps.{least_sum, greatest_sum}
use Rattle.linear_machine.specs.Sums.{IsSmall}
use Rattle.linear_machine.specs.Body.{StaySmall}

-- the weights from a place on
pub from_place : (xs : List ℤ) (at : ℕ) → at < length xs → drop at xs ≡ get_or xs at (pos 0) ∷ drop (at + 1) xs
from_place xs at within =
    let e : suc at ≡ at + 1 = omega arith in
    drop-cons xs at (pos 0) within ∙ ap (λ k. get_or xs at (pos 0) ∷ drop k xs) e

pub least_low : (xs : List ℤ) → least_sum xs ≤ℤ pos 0
least_low [] = omega (arith, ints)
least_low (x ∷ xs) = let h = least_low xs in omega (arith, ints, clamps)

pub greatest_high : (xs : List ℤ) → pos 0 ≤ℤ greatest_sum xs
greatest_high [] = omega (arith, ints)
greatest_high (x ∷ xs) = let h = greatest_high xs in omega (arith, ints, clamps)

abs_low : (z : ℤ) → neg_ℤ (pos (unsigned_abs z)) ≤ℤ z
abs_low (pos n) = omega (arith, ints)
abs_low (negsuc n) = omega (arith, ints)

abs_high : (z : ℤ) → z ≤ℤ pos (unsigned_abs z)
abs_high (pos n) = omega (arith, ints)
abs_high (negsuc n) = omega (arith, ints)

pub least_sized : (xs : List ℤ) → neg_ℤ (pos (sum_by unsigned_abs xs)) ≤ℤ least_sum xs
least_sized [] = omega (arith, ints)
least_sized (x ∷ xs) =
    let h = least_sized xs in
    let low = abs_low x in
    let e = sum_by-cons unsigned_abs x xs in
    omega (arith, ints, clamps)

pub greatest_sized : (xs : List ℤ) → greatest_sum xs ≤ℤ pos (sum_by unsigned_abs xs)
greatest_sized [] = omega (arith, ints)
greatest_sized (x ∷ xs) =
    let h = greatest_sized xs in
    let high = abs_high x in
    let e = sum_by-cons unsigned_abs x xs in
    omega (arith, ints, clamps)

-- sizes below 2 ^ 126 keep all sums small
pub small_sizes : (xs : List ℤ) (constant : ℤ) → IsSmall xs constant → StaySmall xs constant
small_sizes xs constant small =
    let l = least_sized xs in
    let g = greatest_sized xs in
    let cl = abs_low constant in
    let ch = abs_high constant in
    record { low = omega (arith, ints); high = omega (arith, ints) }

-- one weight more is read
pub small_step : (x : ℤ) (xs : List ℤ) (sum : ℤ) (value : Bool) → StaySmall (x ∷ xs) sum → StaySmall xs (sum +ℤ cond value x (pos 0))
small_step x xs sum true small = let l = small.low in let h = small.high in record { low = omega (arith, ints, clamps); high = omega (arith, ints, clamps) }
small_step x xs sum false small = let l = small.low in let h = small.high in record { low = omega (arith, ints, clamps); high = omega (arith, ints, clamps) }

-- one weight more is added to the least, or the greatest, sum of those before it
pub least_turn : (xs : List ℤ) (i : ℕ) (least : ℤ) → i < length xs → least +ℤ least_sum (drop i xs) ≡ least_sum xs
    → (least +ℤ int_min (get_or xs i (pos 0)) (pos 0)) +ℤ least_sum (drop (i + 1) xs) ≡ least_sum xs
least_turn xs i least within whole =
    let e : least_sum (drop i xs) ≡ int_min (get_or xs i (pos 0)) (pos 0) +ℤ least_sum (drop (i + 1) xs) = ap least_sum (from_place xs i within) in
    omega (arith, ints)

pub greatest_turn : (xs : List ℤ) (i : ℕ) (greatest : ℤ) → i < length xs → greatest +ℤ greatest_sum (drop i xs) ≡ greatest_sum xs
    → (greatest +ℤ int_max (get_or xs i (pos 0)) (pos 0)) +ℤ greatest_sum (drop (i + 1) xs) ≡ greatest_sum xs
greatest_turn xs i greatest within whole =
    let e : greatest_sum (drop i xs) ≡ int_max (get_or xs i (pos 0)) (pos 0) +ℤ greatest_sum (drop (i + 1) xs) = ap greatest_sum (from_place xs i within) in
    omega (arith, ints)

-- the weights behind a place
pub least_rest : (xs : List ℤ) (i : ℕ) → i < length xs → least_sum (drop i xs) ≡ int_min (get_or xs i (pos 0)) (pos 0) +ℤ least_sum (drop (i + 1) xs)
least_rest xs i within = ap least_sum (from_place xs i within)

pub greatest_rest : (xs : List ℤ) (i : ℕ) → i < length xs → greatest_sum (drop i xs) ≡ int_max (get_or xs i (pos 0)) (pos 0) +ℤ greatest_sum (drop (i + 1) xs)
greatest_rest xs i within = ap greatest_sum (from_place xs i within)

least_over : (xs : List ℤ) (i : ℕ) → least_sum xs ≤ℤ least_sum (drop i xs)
least_over [] zero = omega (arith, ints)
least_over [] (suc i) = omega (arith, ints)
least_over (x ∷ xs) zero = omega (arith, ints)
least_over (x ∷ xs) (suc i) = let h = least_over xs i in omega (arith, ints, clamps)

greatest_over : (xs : List ℤ) (i : ℕ) → greatest_sum (drop i xs) ≤ℤ greatest_sum xs
greatest_over [] zero = omega (arith, ints)
greatest_over [] (suc i) = omega (arith, ints)
greatest_over (x ∷ xs) zero = omega (arith, ints)
greatest_over (x ∷ xs) (suc i) = let h = greatest_over xs i in omega (arith, ints, clamps)

-- the sums of a part are no larger in size than those of the whole
pub least_part : (xs : List ℤ) (i : ℕ) → neg_ℤ (pos (sum_by unsigned_abs xs)) ≤ℤ least_sum (drop i xs)
least_part xs i = let a = least_sized xs in let b = least_over xs i in omega (arith, ints)

pub greatest_part : (xs : List ℤ) (i : ℕ) → greatest_sum (drop i xs) ≤ℤ pos (sum_by unsigned_abs xs)
greatest_part xs i = let a = greatest_sized xs in let b = greatest_over xs i in omega (arith, ints)
