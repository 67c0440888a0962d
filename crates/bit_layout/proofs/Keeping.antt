-- The bits as a layout keeps them: all in file order, and where each variable's begin.
use Rattle.std.proofs.Common.{◌≡◌, ℕ, ◌+◌, ◌-◌, ◌<◌, ◌≤◌, List, length, get_or, take, drop, Some, refl, sym, ap, ◌∙◌, inl, inr, arith}
use Rattle.std.specs.Prelude.{slice_get, sum_by}
use Rattle.std.specs.List.{AllZip}
use Rattle.std.specs.List.Sorted.{IsStrictlyIncreasing}
use Rattle.std.proofs.lemmas.Bool.{cases_lt}
use Rattle.std.proofs.lemmas.List.FromFn.{length-map-range_with_len}
use Rattle.std.proofs.lemmas.List.Sums.{sum_by-take-le}
use Rattle.std.proofs.lemmas.List.{length-drop, length-take-le, get_or-take, get_or-drop, get_or_default}
use Rattle.std.proofs.lemmas.Option.{slice_get-get_or, get_or_from_slice_get, slice_get_within}
use Rattle.set_meaning.specs.declared.problems.VarId.{VarId}
use Rattle.bit_layout.specs.declared.places.Place.{Place}
use Rattle.bit_layout.specs.Words.{width_of}
use Rattle.bit_layout.specs.Order.{LayoutState, IsLayout, width_at, bit_at, StandsFor}
use Rattle.bit_layout.specs.Body.{place_of, file_places, starts_of}
use Rattle.bit_layout.proofs.Listing.{all_zip_long, all_zip_at, sum_of_widths, length-all_places, listed_at, start_within, start_of}
use Rattle.bit_layout.proofs.Finding.{stands_from, bit_once, kind_of_width, bits_ascend}

-- ---- the bits as a layout keeps them

abbrev pub AreBits : LayoutState → List ℕ → Type 0
AreBits l bits = AllZip (λ p bit. slice_get l.places bit ≡ Some p) (file_places l.kinds) bits

pub length-bits : (l : LayoutState) (bits : List ℕ) → AreBits l bits → length bits ≡ sum_by width_of l.kinds
length-bits l bits zip = sym (all_zip_long (λ (p : Place) (bit : ℕ). slice_get l.places bit ≡ Some p) (file_places l.kinds) bits zip) ∙ length-all_places 0 l.kinds

pub few_bits : (l : LayoutState) → IsLayout l → sum_by width_of l.kinds ≤ 1048576
few_bits l ok = let s = sum_of_widths l.kinds in let b = ok.limits.bits in omega (arith, s, b)

pub start_is : (l : LayoutState) (starts : List ℕ) (v : VarId) (s : ℕ) → starts ≡ starts_of l.kinds → v.0 < length l.kinds → s ≡ get_or starts v.0 s → s ≡ sum_by width_of (take v.0 l.kinds)
start_is l starts v s e h at = at ∙ ap (λ xs. get_or xs v.0 s) e ∙ start_of l.kinds v.0 s h

pub length-starts : (l : LayoutState) (starts : List ℕ) → starts ≡ starts_of l.kinds → length starts ≡ length l.kinds
length-starts l starts e = ap length e ∙ length-map-range_with_len (λ v. sum_by width_of (take v l.kinds)) 0 (length l.kinds)

pub known_variable : (l : LayoutState) (v : VarId) (i : ℕ) → i < width_at l v → v.0 < length l.kinds
known_variable l v i h = let k = kind_of_width l v i h in slice_get_within l.kinds v.0 k.0 k.1

pub index_within : (l : LayoutState) (bits : List ℕ) (v : VarId) (i s : ℕ) → AreBits l bits → s ≡ sum_by width_of (take v.0 l.kinds) → i < width_at l v → s + i < length bits
index_within l bits v i s zip start h =
    let k = kind_of_width l v i h in
    let within : sum_by width_of (take v.0 l.kinds) + i < sum_by width_of l.kinds = start_within l.kinds v.0 i k.0 k.1 k.2 in
    let long : length bits ≡ sum_by width_of l.kinds = length-bits l bits zip in
    omega (arith, within, long, start)

pub bit_found : (l : LayoutState) (bits : List ℕ) (v : VarId) (i s b : ℕ) → AreBits l bits → s ≡ sum_by width_of (take v.0 l.kinds) → i < width_at l v → b ≡ get_or bits (s + i) b → StandsFor l b v i
bit_found l bits v i s b zip start h at =
    let k = kind_of_width l v i h in
    let p : Place = place_of v.0 k.0 i in
    let n : ℕ = sum_by width_of (take v.0 l.kinds) + i in
    let same : s + i ≡ n = ap (λ m. m + i) start in
    let within : n < length (file_places l.kinds) =
    let w : sum_by width_of (take v.0 l.kinds) + i < sum_by width_of l.kinds = start_within l.kinds v.0 i k.0 k.1 k.2 in
    let e : length (file_places l.kinds) ≡ sum_by width_of l.kinds = length-all_places 0 l.kinds in omega (arith, w, e) in
    let R : Place → ℕ → Type 0 = λ p bit. slice_get l.places bit ≡ Some p in
    let found : slice_get l.places (get_or bits n b) ≡ Some (get_or (file_places l.kinds) n p) = all_zip_at R (file_places l.kinds) bits n p b zip within in
    let here : get_or (file_places l.kinds) n p ≡ place_of (0 + v.0) k.0 i = listed_at 0 l.kinds v.0 i k.0 p k.1 k.2 in
    let number : 0 + v.0 ≡ v.0 = omega arith in
    let is : b ≡ get_or bits n b = at ∙ ap (λ m. get_or bits m b) same in
    stands_from l b v i p (ap (slice_get l.places) is ∙ found ∙ ap Some (here ∙ ap (λ m. place_of m k.0 i) number)) refl refl

pub bit_index : (l : LayoutState) (bits starts : List ℕ) (v : VarId) (i s : ℕ) → AreBits l bits → starts ≡ starts_of l.kinds → s ≡ get_or starts v.0 s → i < width_at l v → s + i < length bits
bit_index l bits starts v i s zip e at h = index_within l bits v i s zip (start_is l starts v s e (known_variable l v i h) at) h

pub bit_read : (l : LayoutState) (bits starts : List ℕ) (v : VarId) (i s b : ℕ) → AreBits l bits → starts ≡ starts_of l.kinds → s ≡ get_or starts v.0 s → i < width_at l v → b ≡ get_or bits (s + i) b → StandsFor l b v i
bit_read l bits starts v i s b zip e at h found = bit_found l bits v i s b zip (start_is l starts v s e (known_variable l v i h) at) h found

-- ---- the part of the bits that is one variable's

pub part_at : (bits : List ℕ) (s w i d : ℕ) → i < w → get_or (take w (drop s bits)) i d ≡ get_or bits (s + i) d
part_at bits s w i d h = get_or-take w (drop s bits) i d (omega arith) ∙ get_or-drop s bits i d

pub part_long : (bits : List ℕ) (s w : ℕ) → s + w ≤ length bits → length (take w (drop s bits)) ≡ w
part_long bits s w h =
    let rest : length (drop s bits) ≡ length bits - s = length-drop s bits in
    let l = length-take-le w (drop s bits) (omega (arith, rest, h)) in
    omega (arith, l)

pub part_within : (l : LayoutState) (bits : List ℕ) (v : VarId) (s w : ℕ) → AreBits l bits → v.0 < length l.kinds → s ≡ sum_by width_of (take v.0 l.kinds) → w ≡ width_at l v → s + w ≤ length bits
part_within l bits v s w zip known start wide =
    let long : length bits ≡ sum_by width_of l.kinds = length-bits l bits zip in
    elim (cases_lt 0 w) [
      | inr none ↦ let t : sum_by width_of (take v.0 l.kinds) ≤ sum_by width_of l.kinds = sum_by-take-le width_of l.kinds v.0 in omega (arith, t, long, start)
      | inl some ↦ let last : s + (w - 1) < length bits = index_within l bits v (w - 1) s zip start (omega (arith, wide)) in omega (arith, last)
    ]

pub part_each : (l : LayoutState) (bits : List ℕ) (v : VarId) (s w i : ℕ) → IsLayout l → AreBits l bits → v.0 < length l.kinds → s ≡ sum_by width_of (take v.0 l.kinds) → w ≡ width_at l v → i < width_at l v
    → slice_get (take w (drop s bits)) i ≡ Some (bit_at l v i)
part_each l bits v s w i ok zip known start wide h =
    let part : List ℕ = take w (drop s bits) in
    let b : ℕ = get_or part i 0 in
    let long : length part ≡ w = part_long bits s w (part_within l bits v s w zip known start wide) in
    let inside : s + i < length bits = index_within l bits v i s zip start h in
    let at : b ≡ get_or bits (s + i) b = part_at bits s w i 0 (omega (arith, wide, h)) ∙ get_or_default bits (s + i) 0 b inside in
    slice_get-get_or part i 0 (omega (arith, long, wide, h)) ∙ ap Some (sym (bit_once l v i b ok.order (bit_found l bits v i s b zip start h at)))

pub part_ascends : (l : LayoutState) (v : VarId) (w : ℕ) (part : List ℕ) → IsLayout l → length part ≡ w → w ≡ width_at l v → ((i : ℕ) → i < width_at l v → slice_get part i ≡ Some (bit_at l v i)) → IsStrictlyIncreasing part
part_ascends l v w part ok long wide each k within =
    let one : get_or part k 0 ≡ bit_at l v k = get_or_from_slice_get part k (bit_at l v k) 0 (each k (omega (arith, long, wide))) in
    let two : get_or part (k + 1) 0 ≡ bit_at l v (k + 1) = get_or_from_slice_get part (k + 1) (bit_at l v (k + 1)) 0 (each (k + 1) (omega (arith, long, wide))) in
    let less : bit_at l v k < bit_at l v (k + 1) = bits_ascend l v k (k + 1) ok (omega arith) (omega (arith, long, wide)) in
    omega (arith, one, two, less)

-- ---- the bits of one variable, as they are read

pub part_fits : (l : LayoutState) (bits starts : List ℕ) (v : VarId) (s w : ℕ) → AreBits l bits → starts ≡ starts_of l.kinds → v.0 < length l.kinds → s ≡ get_or starts v.0 s → w ≡ width_at l v → s + w ≤ length bits
part_fits l bits starts v s w zip e known at wide = part_within l bits v s w zip known (start_is l starts v s e known at) wide

pub part_width : (l : LayoutState) (bits starts : List ℕ) (v : VarId) (s w : ℕ) (slice part : List ℕ) → AreBits l bits → starts ≡ starts_of l.kinds → v.0 < length l.kinds → s ≡ get_or starts v.0 s → w ≡ width_at l v
    → slice ≡ bits → part ≡ take w (drop s slice) → length part ≡ width_at l v
part_width l bits starts v s w slice part zip e known at wide f g =
    ap length (g ∙ ap (λ bs. take w (drop s bs)) f) ∙ part_long bits s w (part_fits l bits starts v s w zip e known at wide) ∙ wide

pub part_bits : (l : LayoutState) (bits starts : List ℕ) (v : VarId) (s w : ℕ) (slice part : List ℕ) → IsLayout l → AreBits l bits → starts ≡ starts_of l.kinds → v.0 < length l.kinds → s ≡ get_or starts v.0 s
    → w ≡ width_at l v → slice ≡ bits → part ≡ take w (drop s slice) → (i : ℕ) → i < width_at l v → slice_get part i ≡ Some (bit_at l v i)
part_bits l bits starts v s w slice part ok zip e known at wide f g i h =
    ap (λ bs. slice_get bs i) (g ∙ ap (λ bs. take w (drop s bs)) f) ∙ part_each l bits v s w i ok zip known (start_is l starts v s e known at) wide h

pub part_rises : (l : LayoutState) (bits starts : List ℕ) (v : VarId) (s w : ℕ) (slice part : List ℕ) → IsLayout l → AreBits l bits → starts ≡ starts_of l.kinds → v.0 < length l.kinds → s ≡ get_or starts v.0 s
    → w ≡ width_at l v → slice ≡ bits → part ≡ take w (drop s slice) → IsStrictlyIncreasing part
part_rises l bits starts v s w slice part ok zip e known at wide f g =
    part_ascends l v (width_at l v) part ok (part_width l bits starts v s w slice part zip e known at wide f g) refl (part_bits l bits starts v s w slice part ok zip e known at wide f g)
