-- What a list keeps that is sorted and rid of what stands twice.
use Rattle.std.proofs.Common.{◌≡◌, ◌↔◌, Bool, true, List, [], Contains, sym, subst}
use Rattle.std.specs.Cmp.{IsEquivalence}
use Rattle.std.specs.List.{dedup}
use Rattle.std.specs.List.Sorted.{IsPermutation}
use Rattle.std.specs.List.Retain.{IsFiltered, DiffersFromLast}
use Rattle.std.proofs.lemmas.List.Filters.{dedup_is}
use Rattle.std.proofs.lemmas.List.Kept.{Contains-dedup, Contains-from_dedup}
use Rattle.std.proofs.lemmas.List.Sorted.{Contains-permutation, IsPermutation-sym}

pub distinct_same : {X : Type 0} (E : X → X → Bool) → IsEquivalence E → ((p q : X) → E p q ≡ true → p ≡ q) → (old sorted new : List X) → IsPermutation old sorted → IsFiltered (DiffersFromLast E) [] sorted new
    → (p : X) → Contains new p ↔ Contains old p
distinct_same {X = X} E same identical old sorted new moved filtered p =
    let e : new ≡ dedup E sorted = dedup_is E sorted new filtered in (
      λ h. Contains-permutation sorted old p (IsPermutation-sym old sorted moved) (Contains-from_dedup E sorted p (subst (λ xs. Contains xs p) e h)),
      λ h. subst (λ xs. Contains xs p) (sym e) (Contains-dedup same identical sorted p (Contains-permutation old sorted p moved h)),
    )
