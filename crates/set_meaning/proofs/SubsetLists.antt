-- The list of all subsets, made from its end.
use Rattle.std.proofs.Common.{◌≡◌, ◌<◌, ◌-◌, ◌∙◌, List, [], ◌∷◌, length, get_or, take, drop, ℤ, pos, sym, ap, subst, arith}
use Rattle.std.specs.List.{All}
use Rattle.std.specs.Ordering.{int_cmp}
use Rattle.std.proofs.Math.Seq.{take-length}
use Rattle.std.proofs.lemmas.Map.Keys.{sorted_tail}
use Rattle.std.proofs.lemmas.List.Elements.{Contains-get_or}
use Rattle.set_meaning.specs.Sets.{Has, IsAscending, IsSubset, subsets}
use Rattle.set_meaning.proofs.Ascending.{head_below, IsAscending-cons}
use Rattle.set_meaning.proofs.InitialValues.{subset_is_set}

-- an element below all of an ascending list is below all of each of its subsets
leads_subsets : (x : ℤ) (xs : List ℤ) → IsAscending (x ∷ xs) → All (λ s. IsAscending (x ∷ s)) (subsets xs)
unfolding IsSubset Has
leads_subsets x xs up k d within =
    let s = get_or (subsets xs) k d in
    let rest = subset_is_set xs s (sorted_tail int_cmp x xs up) (Contains-get_or (subsets xs) k d within) in
    IsAscending-cons x s (λ z h. head_below x xs z up (rest.within z h)) rest.ascending

others_are : (x : ℤ) (xs : List ℤ) → take (length (x ∷ xs) - 1) (drop 1 (x ∷ xs)) ≡ xs
others_are x xs = let e : length (x ∷ xs) - 1 ≡ length xs = omega arith in ap (λ k. take k xs) e ∙ take-length xs

-- all elements of a slice but the first ascend
pub others : (xs : List ℤ) → IsAscending xs → 0 < length xs → IsAscending (take (length xs - 1) (drop 1 xs))
others [] up some = absurd (omega arith)
others (x ∷ xs) up some = subst IsAscending (sym (others_are x xs)) (sorted_tail int_cmp x xs up)

-- and the first is below all of each of their subsets
pub leads_others : (xs : List ℤ) (first : ℤ) (sets : List (List ℤ)) → IsAscending xs → 0 < length xs → first ≡ get_or xs 0 (pos 0)
    → sets ≡ subsets (take (length xs - 1) (drop 1 xs)) → All (λ s. IsAscending (first ∷ s)) sets
leads_others [] first sets up some e are = absurd (omega arith)
leads_others (x ∷ xs) first sets up some e are =
    let P : ℤ → Type 0 = λ z. All (λ s. IsAscending (z ∷ s)) sets in
    let Q : List (List ℤ) → Type 0 = λ ss. All (λ s. IsAscending (x ∷ s)) ss in
    subst P (sym e) (subst Q (sym (are ∙ ap subsets (others_are x xs))) (leads_subsets x xs up))
