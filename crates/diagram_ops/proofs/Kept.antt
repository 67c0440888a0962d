-- An ascending list of bits: what a binary search and the last bit say of it.
use Rattle.std.proofs.Common.{◌≡◌, ℕ, ◌-◌, ◌<◌, ◌≤◌, true, false, eqb, List, length, get_or, Some, Err, sym, ◌∙◌, ap, inl, inr, arith}
use Rattle.std.specs.List.{slice_get}
use Rattle.std.specs.Ordering.{nat_cmp}
use Rattle.std.specs.List.Sorted.{IsStrictlyIncreasing, IsBinarySearchResult}
use Rattle.std.proofs.lemmas.Bool.{cases_order, ne_eqb, eqb-true}
use Rattle.std.proofs.lemmas.List.Folds.{list_any_none, Any-from_list_any}
use Rattle.std.proofs.lemmas.List.Sorted.{searched}
use Rattle.std.proofs.lemmas.Map.Keys.{below_from_sorted, sorted_from_strictly_increasing}
use Rattle.std.proofs.lemmas.Option.{slice_get-get_or}
use Rattle.diagram_arena.specs.Reach.{among}

rises : (xs : List ℕ) → IsStrictlyIncreasing xs → (d i j : ℕ) → i ≤ j → j < length xs → get_or xs i d ≤ get_or xs j d
rises xs up d i j below within =
    elim (cases_order i j) [
      | inl e ↦ let same = ap (λ k. get_or xs k d) e in omega (arith, same)
      | inr other ↦ elim other [
        | inl less ↦ let rise = below_from_sorted xs i j d (sorted_from_strictly_increasing xs up) less within in omega (arith, rise)
        | inr more ↦ absurd (omega (arith, below, more))
      ]
    ]

-- what stands in a list does not hang on what is read past its end
same_default : (xs : List ℕ) (k d e : ℕ) → k < length xs → get_or xs k d ≡ get_or xs k e
same_default xs k d e within =
    let same : Some (get_or xs k d) ≡ Some (get_or xs k e) = sym (slice_get-get_or xs k d within) ∙ slice_get-get_or xs k e within in
    (cc)

-- a search that finds nothing
pub absent : (xs : List ℕ) (x at : ℕ) → IsStrictlyIncreasing xs → IsBinarySearchResult (λ y. nat_cmp y x) xs (Err at) → false ≡ among xs x
absent xs x at up is =
    let ends = searched xs x (Err at) is (rises xs up 0) in
    sym (list_any_none (λ b. eqb x b) xs (λ k d within.
    let same = same_default xs k d 0 within in
    ne_eqb x (get_or xs k d) (λ e. elim (cases_order k at) [
      | inl here ↦ let far = ends.2 k (omega (arith, here)) within in omega (arith, same, e, far)
      | inr other ↦ elim other [
        | inl less ↦ let near = ends.1 k less in omega (arith, same, e, near)
        | inr more ↦ let far = ends.2 k (omega (arith, more)) within in omega (arith, same, e, far)
      ]
    ])))

-- no bit is greater than the last
pub below_last : (xs : List ℕ) (last bit : ℕ) → IsStrictlyIncreasing xs → Some last ≡ slice_get xs (length xs - 1) → last < bit → (b : ℕ) → among xs b ≡ true → b < bit
below_last xs last bit up is less b on =
    let found = Any-from_list_any (λ c. eqb b c) xs on in
    let k : ℕ = found.0 in
    let x : ℕ = found.1 in
    let within : k < length xs = found.2 in
    let here : get_or xs k x ≡ x = found.3 in
    let same : b ≡ x = eqb-true b x found.4 in
    let ends : length xs - 1 < length xs = omega (arith, within) in
    let top : Some last ≡ Some (get_or xs (length xs - 1) x) = is ∙ slice_get-get_or xs (length xs - 1) x ends in
    let top' : last ≡ get_or xs (length xs - 1) x = (cc) in
    let rise = rises xs up x k (length xs - 1) (omega (arith, within)) ends in
    omega (arith, here, same, top', rise, less)
