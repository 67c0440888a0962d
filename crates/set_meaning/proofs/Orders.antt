-- Lists of integers compared element by element.
use Rattle.std.proofs.Common.{◌≡◌, ◌↔◌, ◌⊎◌, Bool, true, false, List, [], ◌∷◌, ℤ, ◌<ℤ◌, refl, sym, ◌∙◌, subst, inl, inr, arith, IsTrue}
use Rattle.std.specs.declared.cmp.Ordering.{Ordering}
use Rattle.std.specs.declared.cmp.Ordering.TheVariants.{Less, Equal, Greater}
use Rattle.std.specs.Prelude.{Option, Some}
use Rattle.std.proofs.lemmas.Int.{ints}
use Rattle.std.specs.Ordering.{int_cmp, int_eq, is_lt, is_some_and, partial_ordering_then}
use Rattle.std.specs.Cmp.{int_ranked, signed_Decides}
use Rattle.std.specs.Cmp.Lexicographic.{pointwise, pointwise_decides, slice_partial_cmp}
use Rattle.set_meaning.specs.Sets.{IsBefore}

pub equal_lists : (r : Bool) (x y a b : List ℤ) → r ≡ pointwise int_eq x y → x ≡ a → y ≡ b → IsTrue r ↔ (a ≡ b)
equal_lists r x y a b is p q =
    let P : List ℤ → List ℤ → Type 0 = λ s t. IsTrue r ↔ (s ≡ t) in
    let both = pointwise_decides signed_Decides x y in
    let here : P x y = (λ h. both.0 (sym is ∙ h), λ e. is ∙ both.1 e) in
    subst (λ s. P s b) p (subst (P x) q here)

-- the order of slices
abbrev ranked : List ℤ → List ℤ → Option Ordering
ranked a b = slice_partial_cmp (λ x y. Some (int_cmp x y)) a b

before_from_rank : (a b : List ℤ) → IsTrue (is_some_and is_lt (ranked a b)) ↔ IsBefore a b
unfolding IsBefore
before_from_rank [] [] = (λ h. let e : false ≡ true = h in cc, λ h. absurd h)
before_from_rank [] (y ∷ ys) = (λ h. tt, λ h. refl)
before_from_rank (x ∷ xs) [] = (λ h. let e : false ≡ true = h in cc, λ h. absurd h)
before_from_rank (x ∷ xs) (y ∷ ys) = by_heads (int_cmp x y) refl (before_from_rank xs ys)
  where
    by_heads : (o : Ordering) → o ≡ int_cmp x y → IsTrue (is_some_and is_lt (ranked xs ys)) ↔ IsBefore xs ys
        → IsTrue (is_some_and is_lt (partial_ordering_then (Some o) (ranked xs ys))) ↔ ((x <ℤ y) ⊎ ((x ≡ y) × IsBefore xs ys))
    by_heads Less is later = let less : x <ℤ y = int_ranked x y Less is in (λ _. inl less, λ _. refl)
    by_heads Equal is later =
        let same : x ≡ y = int_ranked x y Equal is in
        (λ h. inr (same, later.0 h), λ h. elim h [ inl less ↦ absurd (omega (arith, ints, less, same)) | inr rest ↦ later.1 rest.1 ])
    by_heads Greater is later =
        let more : y <ℤ x = int_ranked x y Greater is in
        (λ h. let e : false ≡ true = h in cc, λ h. elim h [ inl less ↦ absurd (omega (arith, ints, less, more)) | inr rest ↦ let same : x ≡ y = rest.0 in absurd (omega (arith, ints, same, more)) ])

pub before_is : (r : Bool) (x y a b : List ℤ) → r ≡ is_some_and is_lt (ranked x y) → x ≡ a → y ≡ b → IsTrue r ↔ IsBefore a b
before_is r x y a b is p q =
    let P : List ℤ → List ℤ → Type 0 = λ s t. IsTrue r ↔ IsBefore s t in
    let both = before_from_rank x y in
    let here : P x y = (λ h. both.0 (sym is ∙ h), λ e. is ∙ both.1 e) in
    subst (λ s. P s b) p (subst (P x) q here)
