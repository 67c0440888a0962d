-- The pieces of a text that is cut at a byte.
use Rattle.std.proofs.Common.{ℕ, ◌≡◌, ◌≤◌, ◌<◌, ◌+◌, List, [], ◌∷◌, length, take, drop, true, false, arith, refl, subst, sym, ap, ◌∙◌, Bool, Some, None}
use Rattle.std.specs.Prelude.{◌==◌, position, IsTrue, ◌↔◌}
use Rattle.std.proofs.lemmas.Slice.{between_to_end}
use Rattle.std.specs.List.{between, slice_split, position_or_len}
use Rattle.std.proofs.lemmas.Bool.Decides.{nat_tests}
use Rattle.std.proofs.lemmas.List.Splits.{slice_split_first, slice_split_none, length-slice_split}
use Rattle.std.proofs.lemmas.List.Sums.{fails_before_first}
use Rattle.log_text.specs.Pieces.{pieces_left}

-- a position is that of the first element that passes
pub position_some : (p : ℕ → Bool) (xs : List ℕ) (at : ℕ) → position p xs ≡ Some at → (position_or_len p xs ≡ at) × (at < length xs)
position_some p xs at is = grind (arith, nat_tests)

pub position_none : (p : ℕ → Bool) (xs : List ℕ) → position p xs ≡ None → length xs ≤ position_or_len p xs
position_none p xs is = grind (arith, nat_tests)

-- the first piece ends at the first separator
pub cut_first : (c : ℕ) (done : Bool) (xs : List ℕ) (at : ℕ) (left : List (List ℕ)) → pieces_left c done xs ≡ left → done ≡ false → position (λ b. b == c) xs ≡ Some at → left ≡ take at xs ∷ pieces_left c done (between (at + 1) (length xs) xs)
cut_first c done xs at left is open_ found =
    let h = position_some (λ b. b == c) xs at found in
    let P : ℕ → Type 0 = λ k. k < length xs → slice_split (λ b. b == c) xs ≡ take k xs ∷ slice_split (λ b. b == c) (drop (k + 1) xs) in
    let e : slice_split (λ b. b == c) xs ≡ take at xs ∷ slice_split (λ b. b == c) (drop (at + 1) xs) = subst P h.0 (λ g. slice_split_first (λ b. b == c) xs 0 g) h.1 in
    rw (← is, open_, between_to_end xs (at + 1) (length xs) (omega arith)) e

-- with no separator left, the rest is the last piece
pub cut_last : (c : ℕ) (done : Bool) (xs : List ℕ) (left : List (List ℕ)) → pieces_left c done xs ≡ left → done ≡ false → position (λ b. b == c) xs ≡ None → left ≡ xs ∷ []
cut_last c done xs left is open_ none =
    let h = position_none (λ b. b == c) xs none in
    let e : slice_split (λ b. b == c) xs ≡ xs ∷ [] = slice_split_none (λ b. b == c) xs (λ k d g. fails_before_first (λ b. b == c) xs k d (omega arith)) in
    rw (← is, open_) e

-- nothing is left exactly where the last piece was taken
pub done_is_empty : (c : ℕ) (done : Bool) (xs : List ℕ) (left : List (List ℕ)) → pieces_left c done xs ≡ left → IsTrue done ↔ (left ≡ [])
done_is_empty c true xs left is = (λ _. sym is, λ _. refl)
done_is_empty c false xs left is = (λ h. cc, λ h. absurd (omega (arith, length-slice_split (λ b. b == c) xs, ap length (is ∙ h))))
