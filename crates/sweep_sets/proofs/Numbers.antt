-- The numbers of elements in an ascending list.
use Rattle.std.proofs.Common.{◌≡◌, ℕ, ◌<◌, ℤ, List, length, get_or, sym, ap, ◌∙◌, subst, arith}
use Rattle.std.specs.Ordering.{int_cmp, int_eq}
use Rattle.std.specs.declared.cmp.Ordering.TheVariants.{Less, Equal}
use Rattle.std.specs.Cmp.{int_ranked, signed_Decides, int_cmp_total, tied_itself}
use Rattle.std.proofs.lemmas.List.Sums.{position_or_len_is}
use Rattle.std.proofs.lemmas.Map.Keys.{Less-from_sorted}
use Rattle.set_meaning.specs.Sets.{Has, IsAscending}
use Rattle.sweep_sets.specs.Tables.{number_of}
use Rattle.sweep_sets.proofs.Truth.{not_true}

pub number_is : (elements : List ℤ) (x : ℤ) (i : ℕ) → IsAscending elements → i < length elements → get_or elements i x ≡ x → number_of elements x ≡ i
number_is elements x i up within at =
    position_or_len_is (λ y. int_eq y x) elements i x (omega arith)
    (λ k less. not_true (int_eq (get_or elements k x) x) (λ t.
    let same : get_or elements k x ≡ x = (signed_Decides (get_or elements k x) x).0 t in
    let before : int_cmp (get_or elements k x) (get_or elements i x) ≡ Less = Less-from_sorted int_cmp elements k i x up less within in
    let tied : int_cmp (get_or elements k x) (get_or elements i x) ≡ Equal = ap (int_cmp (get_or elements k x)) (at ∙ sym same) ∙ tied_itself int_cmp_total (get_or elements k x) in
    let e : Less ≡ Equal = sym before ∙ tied in cc))
    (λ _. (signed_Decides (get_or elements i x) x).1 at)

-- an element stands at its number
pub number_stands : (elements : List ℤ) (x : ℤ) → IsAscending elements → Has elements x → (number_of elements x < length elements) × (get_or elements (number_of elements x) x ≡ x)
unfolding Has
number_stands elements x up h =
    let is : number_of elements x ≡ h.0 = number_is elements x h.0 up h.1 h.2 in
    let P : ℕ → Type 0 = λ i. (i < length elements) × (get_or elements i x ≡ x) in
    subst P (sym is) (h.1, h.2)

pub number_of_place : (elements : List ℤ) (x : ℤ) (i : ℕ) → IsAscending elements → i < length elements → get_or elements i x ≡ x → i ≡ number_of elements x
number_of_place elements x i up within at = sym (number_is elements x i up within at)

same_ints : (x y : ℤ) → int_cmp x y ≡ Equal → x ≡ y
same_ints x y tied = int_ranked x y Equal (sym tied)

-- what a search finds
pub number_found : (elements : List ℤ) (x : ℤ) (i : ℕ) → IsAscending elements → i < length elements → ((d : ℤ) → int_cmp (get_or elements i d) x ≡ Equal) → i ≡ number_of elements x
number_found elements x i up within tied = number_of_place elements x i up within (same_ints (get_or elements i x) x (tied x))
