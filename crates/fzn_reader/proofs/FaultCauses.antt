-- The piece at the place of a bad number or an open string is neither a token nor a gap.
use Rattle.std.proofs.Common.{◌≡◌, ℕ, ◌<◌, Bool, true, false, ◌||◌, cond, eqb, List, [], ◌∷◌, length, get_or, Some, None, refl, ap, arith}
use Rattle.std.specs.Char.{is_digit}
use Rattle.std.proofs.lemmas.Bool.{eqb-true}
use Rattle.fzn_reader.specs.declared.pieces.Piece.TheVariants as pieces
use Rattle.fzn_reader.specs.Numbers.{base_of, base_of_letter}
use Rattle.fzn_reader.specs.Pieces.{piece_of, unsigned_piece, number_piece, string_piece, HasNoDigits, LacksDigits, IsOpenString, IsLongestPiece}
use Rattle.fzn_reader.specs.Front.{begins_number}
use Rattle.fzn_reader.proofs.LongestNumbers.{based_none, minus_found, unsigned_front}
use Rattle.fzn_reader.proofs.Closings.{string_open}
use Rattle.fzn_reader.proofs.FirstBytes.{number_front, string_front}
use Rattle.fzn_reader.proofs.Fronts.{found_by}

-- a prefix begins with `0`
begins_with_zero : (b : ℕ) (bytes : List ℕ) (base : ℕ) → base_of (b ∷ bytes) ≡ Some base → eqb b 48 ≡ true
begins_with_zero b [] base h = absurd (cc)
begins_with_zero b (c ∷ bytes) base h =
    elim (eqb b 48) as (λ v. cond v (base_of_letter c) None ≡ Some base → v ≡ true) [ true ↦ λ h'. refl | false ↦ λ h'. absurd (cc) ] h

no_digits_by_number : (b : ℕ) (bytes : List ℕ) (minus : Bool) → eqb b 45 ≡ minus → HasNoDigits (cond minus bytes (b ∷ bytes)) → (n : ℕ) × IsLongestPiece (b ∷ bytes) n pieces.NoDigits
no_digits_by_number b bytes true minus h =
    let is : b ≡ 45 = eqb-true b 45 minus in
    let number : begins_number b ≡ true = ap (λ v. v || is_digit b 10) minus in
    let found = minus_found (b ∷ bytes) 2 pieces.NoDigits (omega arith) is (based_none true bytes h.base h.named h.none) in
    (3, found_by number_piece piece_of (b ∷ bytes) (number_front (b ∷ bytes) (omega arith) number) (Some (pieces.NoDigits, 3)) found)
no_digits_by_number b bytes false minus h =
    let zero_ : b ≡ 48 = eqb-true b 48 (begins_with_zero b bytes h.base h.named) in
    let number : begins_number b ≡ true = ap begins_number zero_ in
    let found = found_by (unsigned_piece false) number_piece (b ∷ bytes) (unsigned_front (b ∷ bytes) (λ _. minus)) (Some (pieces.NoDigits, 2)) (based_none false (b ∷ bytes) h.base h.named h.none) in
    (2, found_by number_piece piece_of (b ∷ bytes) (number_front (b ∷ bytes) (omega arith) number) (Some (pieces.NoDigits, 2)) found)

pub lacks_digits : (text : List ℕ) → LacksDigits text → (n : ℕ) × IsLongestPiece text n pieces.NoDigits
lacks_digits [] h = let e : None ≡ Some h.base = h.named in absurd (cc)
lacks_digits (b ∷ bytes) h = no_digits_by_number b bytes (eqb b 45) refl h

more_than_none : (text : List ℕ) → get_or text 0 0 ≡ 34 → 0 < length text
more_than_none [] h = absurd (omega arith)
more_than_none (b ∷ text) h = omega arith

pub open_string : (text : List ℕ) → IsOpenString text → (n : ℕ) × IsLongestPiece text n pieces.OpenQuote
open_string text h =
    let more = more_than_none text h.quote in
    (1, found_by string_piece piece_of text (string_front text more h.quote) (Some (pieces.OpenQuote, 1)) (string_open text more h.quote h.open_))
