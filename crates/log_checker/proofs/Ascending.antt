-- The set of an ascending list.
use Rattle.std.proofs.Common.{◌≡◌, ℤ, List, [], ◌∷◌, refl, ap, ◌∙◌}
use Rattle.std.specs.List.{AllByRecursion}
use Rattle.std.specs.List.Sorted.{IsStrictlySortedBy}
use Rattle.std.specs.Ordering.{int_cmp, match_ordering}
use Rattle.std.specs.declared.cmp.Ordering.TheVariants.{Less}
use Rattle.set_meaning.specs.Sets.{IsAscending, ascending_set, with_element}

put_first : (x : ℤ) (xs : List ℤ) → AllByRecursion (λ y. int_cmp x y ≡ Less) xs → with_element x xs ≡ x ∷ xs
put_first x [] all = refl
put_first x (y ∷ ys) all = ap (λ o. match_ordering o (x ∷ y ∷ ys) (y ∷ ys) (y ∷ with_element x ys)) all.0

pub ascending_is : (xs : List ℤ) → IsAscending xs → ascending_set xs ≡ xs
unfolding IsStrictlySortedBy
ascending_is [] all = refl
ascending_is (x ∷ xs) all = ap (with_element x) (ascending_is xs all.1) ∙ put_first x xs all.0
