-- How a layout is made: the places listed, sorted and found.
use Rattle.std.proofs.Common.{◌≡◌, ℕ, ◌+◌, ◌<◌, ◌≤◌, List, [], ◌∷◌, ◌++◌, length, get_or, map, take, ℤ, Option, Some, sym, ap, append_assoc, ◌∙◌, subst, arith, Contains}
use Rattle.std.specs.Prelude.{slice_get, sum_by}
use Rattle.std.specs.List.{range_with_len, All, AllZip}
use Rattle.std.specs.List.Sorted.{IsPermutation, IsSorted}
use Rattle.std.proofs.lemmas.List.Sorted.{length_permutation, Contains-permutation}
use Rattle.std.proofs.lemmas.List.Elements.{Contains-get_or}
use Rattle.std.proofs.lemmas.List.FromFn.{map-range_with_len_more}
use Rattle.std.proofs.lemmas.List.Sums.{sum_by_more_le, sum_by_more}
use Rattle.set_meaning.specs.declared.kinds.Kind.{Kind}
use Rattle.bit_layout.specs.declared.places.Place.{Place}
use Rattle.bit_layout.specs.Words.{width_of}
use Rattle.bit_layout.specs.Limits.{AreWithinLimits, counted_bits}
use Rattle.bit_layout.specs.Order.{element_at, place_cmp, IsOrder}
use Rattle.bit_layout.specs.Body.{place_of, file_places}
use Rattle.bit_layout.proofs.Sorting.{order_from_sort}
use Rattle.bit_layout.proofs.Listing.{sum_of_widths, as_many_as_bits, length-all_places}

pub length-places : (kinds : List Kind) (listed sorted : List Place) → listed ≡ file_places kinds → IsPermutation listed sorted → length sorted ≡ sum_by width_of kinds
length-places kinds listed sorted are moved = length_permutation listed sorted moved ∙ ap length are ∙ length-all_places 0 kinds

-- ---- making a layout

pub few_kinds : (kinds : List Kind) → AreWithinLimits kinds → length kinds ≤ 1048576
few_kinds kinds ok = let s : length kinds ≤ sum_by counted_bits kinds = as_many_as_bits kinds in let b = ok.bits in omega (arith, s, b)

pub start_fits : (kinds : List Kind) (i : ℕ) (k : Kind) (s w : ℕ) → AreWithinLimits kinds → i < length kinds → k ≡ get_or kinds i k → s ≡ sum_by width_of (take i kinds) → w ≡ width_of k → s + w ≤ 1048576
start_fits kinds i k s w ok within at start wide =
    let more : sum_by width_of (take i kinds) + width_of (get_or kinds i k) ≤ sum_by width_of kinds = sum_by_more_le width_of kinds i k within in
    let here : width_of k ≡ width_of (get_or kinds i k) = ap width_of at in
    let all : sum_by width_of kinds ≤ sum_by counted_bits kinds = sum_of_widths kinds in
    let b = ok.bits in
    omega (arith, more, here, all, b, start, wide)

pub starts_step : (kinds : List Kind) (starts pushed : List ℕ) (i : ℕ) (k : Kind) (s w : ℕ) → i < length kinds → k ≡ get_or kinds i k → w ≡ width_of k → pushed ≡ starts ++ s ∷ []
    → (starts ≡ map (λ v. sum_by width_of (take v kinds)) (range_with_len 0 i)) × (s ≡ sum_by width_of (take i kinds))
    → (pushed ≡ map (λ v. sum_by width_of (take v kinds)) (range_with_len 0 (i + 1))) × (s + w ≡ sum_by width_of (take (i + 1) kinds))
starts_step kinds starts pushed i k s w within at wide push so_far =
    let f : ℕ → ℕ = λ v. sum_by width_of (take v kinds) in
    let more : f (i + 1) ≡ f i + width_of (get_or kinds i k) = sum_by_more width_of kinds i k within in (
      push ∙ ap (λ xs. xs ++ s ∷ []) so_far.0 ∙ ap (λ m. map f (range_with_len 0 i) ++ m ∷ []) so_far.1 ∙ sym (map-range_with_len_more f 0 i i (omega arith)),
      ap (λ m. m + w) so_far.1 ∙ ap (λ m. f i + m) (wide ∙ ap width_of at) ∙ sym more,
    )

pub places_step : (v : ℕ) (k : Kind) (i : ℕ) (e : Option ℤ) (before places pushed : List Place) → e ≡ element_at k i → pushed ≡ places ++ record { element = e; variable = record { 0 = v }; position = i } ∷ [] → places ≡ before ++ map (place_of v k) (range_with_len 0 i)
    → pushed ≡ before ++ map (place_of v k) (range_with_len 0 (i + 1))
places_step v k i e before places pushed at push so_far =
    let pushed_with : Option ℤ → List Place = λ x. places ++ record { element = x; variable = record { 0 = v }; position = i } ∷ [] in
    push ∙ ap pushed_with at ∙ ap (λ ps. ps ++ place_of v k i ∷ []) so_far ∙ append_assoc before (map (place_of v k) (range_with_len 0 i)) (place_of v k i ∷ [])
    ∙ ap (λ ps. before ++ ps) (sym (map-range_with_len_more (place_of v k) 0 i i (omega arith)))

pub order_made : (kinds given : List Kind) (listed slice copy sorted : List Place) → given ≡ kinds → listed ≡ file_places given → copy ≡ slice → slice ≡ listed → IsPermutation copy sorted → IsSorted place_cmp sorted
    → IsOrder kinds sorted
order_made kinds given listed slice copy sorted e f g h moved up = order_from_sort kinds copy sorted (g ∙ h ∙ f ∙ ap file_places e) moved up

pub long_made : (kinds given : List Kind) (listed slice copy sorted : List Place) → given ≡ kinds → listed ≡ file_places given → copy ≡ slice → slice ≡ listed → IsPermutation copy sorted → length sorted ≡ sum_by width_of kinds
long_made kinds given listed slice copy sorted e f g h moved = length-places kinds copy sorted (g ∙ h ∙ f ∙ ap file_places e) moved

pub all_found : (listed slice copy sorted : List Place) → copy ≡ slice → slice ≡ listed → IsPermutation copy sorted → All (Contains sorted) listed
all_found listed slice copy sorted g h moved =
    let P : List Place → Type 0 = λ ps. All (Contains sorted) ps in
    subst P (g ∙ h) (λ k d within. Contains-permutation copy sorted (get_or copy k d) moved (Contains-get_or copy k d within))

pub limits_kept : (kinds given : List Kind) → kinds ≡ given → AreWithinLimits given → AreWithinLimits kinds
limits_kept kinds given e ok = subst AreWithinLimits (sym e) ok

pub bits_kept : (kinds given : List Kind) (listed listed' places places' : List Place) (bits : List ℕ) → given ≡ kinds → listed ≡ file_places given → listed' ≡ listed → places' ≡ places
    → AllZip (λ p bit. slice_get places' bit ≡ Some p) listed' bits → AllZip (λ p bit. slice_get places bit ≡ Some p) (file_places kinds) bits
bits_kept kinds given listed listed' places places' bits e f g h zip =
    let P : List Place → Type 0 = λ ps. AllZip (λ p bit. slice_get ps bit ≡ Some p) listed' bits in
    let Q : List Place → Type 0 = λ ps. AllZip (λ p bit. slice_get places bit ≡ Some p) ps bits in
    subst Q (g ∙ f ∙ ap file_places e) (subst P h zip)
