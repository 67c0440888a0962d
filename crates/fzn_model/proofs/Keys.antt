-- Look-ups by bytes in a table whose keys own bytes.
use Rattle.std.proofs.Common.{◌≡◌, ◌≢◌, ℕ, Bool, true, false, List, refl, sym, ap, subst, ◌∙◌}
use Rattle.std.specs.Cmp.Lexicographic.{nat_list_eq_equiv}
use Rattle.std.specs.Str.{bytes_eq}
use Rattle.std.specs.Map.{lookup, KeepsOthers, IsKeyTest, AreApart}
use Rattle.std.proofs.lemmas.Slice.Eq.{bytes_eq-Decides}

module _ {K : Type 0} (bytes : K → List ℕ) where
  -- a key is found by no other bytes than its own
  apart : (key : K) (other : List ℕ) → other ≢ bytes key → AreApart (λ k. bytes_eq (bytes key) (bytes k)) (λ k. bytes_eq other (bytes k))
  apart key other ne k same = by (bytes_eq other (bytes k)) refl
    where
      by : (b : Bool) → bytes_eq other (bytes k) ≡ b → b ≡ false
      by false e = refl
      by true e = absurd (ne ((bytes_eq-Decides other (bytes k)).0 e ∙ sym ((bytes_eq-Decides (bytes key) (bytes k)).0 same)))

  -- what other bytes find is kept where one key is written
  pub others_kept : {X : Type 0} (key : K) (other : List ℕ) (old new : List (K × X))
      → KeepsOthers (λ x y. bytes_eq (bytes x) (bytes y)) (λ k. bytes_eq (bytes key) (bytes k)) old new
      → other ≢ bytes key → lookup (λ k. bytes_eq other (bytes k)) new ≡ lookup (λ k. bytes_eq other (bytes k)) old
  unfolding KeepsOthers
  others_kept key other old new kept ne =
      kept (λ k. bytes_eq other (bytes k)) (λ x y e. nat_list_eq_equiv.congr other (bytes x) (bytes y) e) (apart key other ne)
