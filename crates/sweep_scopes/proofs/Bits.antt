-- The bits of variables, listed and sorted.
use Rattle.std.proofs.Common.{◌≡◌, ℕ, ◌<◌, ◌↔◌, eqb, Bool, true, List, [], ◌∷◌, length, get_or, Option, Some, None, refl, sym, ap, ◌∙◌, subst, inl, inr, arith, Contains}
use Rattle.std.specs.Prelude.{slice_get, IsSomeAnd}
use Rattle.std.specs.List.{flat_map, dedup, All}
use Rattle.std.specs.List.Retain.{IsFiltered, DiffersFromLast}
use Rattle.std.specs.List.Sorted.{IsPermutation, IsSorted}
use Rattle.std.specs.Ordering.{nat_cmp}
use Rattle.std.specs.Cmp.{IsEquivalence, nat_cmp_total, nat_eq_equiv, on_equiv}
use Rattle.std.proofs.lemmas.Bool.{eqb-true}
use Rattle.std.proofs.lemmas.List.{ext_get_or}
use Rattle.std.proofs.lemmas.List.Filters.{dedup_is}
use Rattle.std.proofs.lemmas.List.Kept.{Contains-dedup, Contains-dedup_nat, Contains-from_dedup}
use Rattle.std.proofs.lemmas.List.Sorted.{IsPermutation-sym, Contains-permutation}
use Rattle.std.proofs.lemmas.List.Elements.{All-contains, Contains-get_or, Contains-append_left, Contains-append_right, Contains-append_cases}
use Rattle.std.proofs.lemmas.List.FromFn.{length-map-range_with_len, get_or-map-range_with_len}
use Rattle.std.proofs.lemmas.Map.Keys.{IsStrictlyIncreasing-dedup, sorted_from_strictly_increasing}
use Rattle.std.proofs.lemmas.Option.{get_or_from_slice_get, slice_get_within}
use Rattle.set_meaning.specs.declared.problems.VarId.{VarId}
use Rattle.bit_layout.specs.declared.places.Place.{Place}
use Rattle.bit_layout.specs.Words.{width_of}
use Rattle.bit_layout.specs.Order.{LayoutState, IsLayout, width_at, bit_at}
use Rattle.bit_layout.proofs.Rising.{nothing_in_empty, in_cons, in_head, in_tail, same_members}
use Rattle.bit_layout.proofs.Finding.{stands_cases, stands_from, bit_once, bit_stands, kind_of_place, member_at}
use Rattle.bit_layout.proofs.ValuesAt.{width_is}
use Rattle.sweep_scopes.specs.Bits.{bits_at, IsBitOf, AreBitsOf}

-- ---- lists

pub in_flat_map : {X Y : Type 0} (f : X → List Y) (xs : List X) (y : Y) → Contains (flat_map f xs) y → (x : X) × Contains xs x × Contains (f x) y
in_flat_map f [] y h = absurd (nothing_in_empty y h)
in_flat_map f (x ∷ xs) y h =
    elim (Contains-append_cases (f x) (flat_map f xs) y h) [
      | inl here ↦ (x, in_head x xs, here)
      | inr later ↦ let r = in_flat_map f xs y later in (r.0, in_tail x xs r.0 r.1, r.2)
    ]

pub flat_map_has : {X Y : Type 0} (f : X → List Y) (xs : List X) (x : X) (y : Y) → Contains xs x → Contains (f x) y → Contains (flat_map f xs) y
flat_map_has f [] x y h k = absurd (nothing_in_empty x h)
flat_map_has {Y} f (z ∷ xs) x y h k =
    elim (in_cons z xs x h) [
      | inl here ↦ Contains-append_left (f z) (flat_map f xs) y (let P : List Y → Type 0 = λ ys. Contains ys y in subst P (sym (ap f here)) k)
      | inr later ↦ Contains-append_right (f z) (flat_map f xs) y (flat_map_has f xs x y later k)
    ]

-- ---- the bits of one variable

pub length-bits_at : (l : LayoutState) (v : VarId) → length (bits_at l v) ≡ width_at l v
length-bits_at l v = length-map-range_with_len (bit_at l v) 0 (width_at l v)

pub bits_at-at : (l : LayoutState) (v : VarId) (i d : ℕ) → i < width_at l v → get_or (bits_at l v) i d ≡ bit_at l v i
bits_at-at l v i d within = get_or-map-range_with_len (bit_at l v) 0 (width_at l v) i i d within (omega arith)

pub bits_at_has : (l : LayoutState) (v : VarId) (i : ℕ) → i < width_at l v → Contains (bits_at l v) (bit_at l v i)
bits_at_has l v i within =
    let long = length-bits_at l v in
    (i, omega (arith, long, within), bits_at-at l v i (bit_at l v i) within)

pub in_bits_at : (l : LayoutState) (v : VarId) (b : ℕ) → Contains (bits_at l v) b → (i : ℕ) × (i < width_at l v) × (bit_at l v i ≡ b)
in_bits_at l v b h =
    let long = length-bits_at l v in
    let i : ℕ = h.0 in
    let at : i < length (bits_at l v) = h.1 in
    let within : i < width_at l v = omega (arith, long, at) in
    (i, within, sym (bits_at-at l v i b within) ∙ h.2)

pub bits_from : (l : LayoutState) (v : VarId) (bits : List ℕ) → length bits ≡ width_at l v → ((i : ℕ) → i < width_at l v → slice_get bits i ≡ Some (bit_at l v i)) → bits ≡ bits_at l v
bits_from l v bits long each =
    let other = length-bits_at l v in
    ext_get_or 0 bits (bits_at l v) (long ∙ sym other) (λ i within.
    let inside : i < width_at l v = omega (arith, long, within) in
    get_or_from_slice_get bits i (bit_at l v i) 0 (each i inside) ∙ sym (bits_at-at l v i 0 inside))

-- ---- the bits of several

pub place_of_bit : (l : LayoutState) (scope : List VarId) (b : ℕ) → IsBitOf l scope b → (p : Place) × (slice_get l.places b ≡ Some p) × Contains scope p.variable
place_of_bit l scope b h =
    elim (slice_get l.places b) as (λ o. slice_get l.places b ≡ o → IsSomeAnd o (λ p. Contains scope p.variable) → (p : Place) × (slice_get l.places b ≡ Some p) × Contains scope p.variable) [
      | None ↦ λ e h. absurd h
      | Some p ↦ λ e h. (p, e, h)
    ] refl h

pub is_bit_of : (l : LayoutState) (scope : List VarId) (b : ℕ) (p : Place) → slice_get l.places b ≡ Some p → Contains scope p.variable → IsBitOf l scope b
is_bit_of l scope b p e h = let P : Option Place → Type 0 = λ o. IsSomeAnd o (λ p. Contains scope p.variable) in subst P (sym e) h

-- a position of a variable stands at its bit
pub bit_is_of : (l : LayoutState) (scope : List VarId) (v : VarId) (i : ℕ) → IsLayout l → Contains scope v → i < width_at l v → IsBitOf l scope (bit_at l v i)
bit_is_of l scope v i ok h within =
    let r = stands_cases l (bit_at l v i) v i (bit_stands l v i ok.order within) in
    is_bit_of l scope (bit_at l v i) r.0 r.1 (subst (Contains scope) (sym r.2) h)

-- the place of a bit is one of its variable's positions
pub place_within : (l : LayoutState) (b : ℕ) (p : Place) → IsLayout l → slice_get l.places b ≡ Some p → (p.position < width_at l p.variable) × (bit_at l p.variable p.position ≡ b)
place_within l b p ok e =
    let within = slice_get_within l.places b p e in
    let here = get_or_from_slice_get l.places b p p e in
    let known = kind_of_place l.kinds (get_or l.places b p) (member_at l.kinds l.places b p ok.order within) in
    let P : Place → Type 0 = λ q. q.position < width_at l q.variable in
    let w : width_at l (get_or l.places b p).variable ≡ width_of known.0 = width_is l (get_or l.places b p).variable known.0 known.1 in
    let short : (get_or l.places b p).position < width_of known.0 = known.2 in
    (subst P here (omega (arith, w, short)), bit_once l p.variable p.position b ok.order (stands_from l b p.variable p.position p e refl refl))

pub listed_are : (l : LayoutState) (scope : List VarId) (b : ℕ) → IsLayout l → Contains (flat_map (bits_at l) scope) b ↔ IsBitOf l scope b
listed_are l scope b ok = (
  λ h.
      let r = in_flat_map (bits_at l) scope b h in
      let s = in_bits_at l r.0 b r.2 in
      subst (IsBitOf l scope) s.2 (bit_is_of l scope r.0 s.0 ok r.1 s.1),
  λ h.
      let r = place_of_bit l scope b h in
      let s = place_within l b r.0 ok r.1 in
      flat_map_has (bits_at l) scope r.0.variable b r.2 (subst (Contains (bits_at l r.0.variable)) s.1 (bits_at_has l r.0.variable r.0.position s.0)),
)

-- the bits of the same variables
pub same_bits : (l : LayoutState) (xs scope : List VarId) (b : ℕ) → ((v : VarId) → Contains xs v ↔ Contains scope v) → IsBitOf l xs b ↔ IsBitOf l scope b
same_bits l xs scope b same = (
  λ h. let r = place_of_bit l xs b h in is_bit_of l scope b r.0 r.1 ((same r.0.variable).0 r.2),
  λ h. let r = place_of_bit l scope b h in is_bit_of l xs b r.0 r.1 ((same r.0.variable).1 r.2),
)

-- what a sort and a `dedup` leave of them
pub bits_from_sort : (l : LayoutState) (xs scope : List VarId) (listed sorted bits : List ℕ) → IsLayout l → ((v : VarId) → Contains xs v ↔ Contains scope v) → listed ≡ flat_map (bits_at l) xs
    → IsPermutation listed sorted → IsSorted nat_cmp sorted → IsFiltered (DiffersFromLast eqb) [] sorted bits → AreBitsOf l scope bits
bits_from_sort l xs scope listed sorted bits ok same are moved up kept =
    let e : bits ≡ dedup eqb sorted = dedup_is eqb sorted bits kept in
    let to : (b : ℕ) → Contains listed b ↔ IsBitOf l xs b = λ b. let P : List ℕ → Type 0 = λ ys. Contains ys b ↔ IsBitOf l xs b in subst P (sym are) (listed_are l xs b ok) in
    let P : List ℕ → Type 0 = λ s. AreBitsOf l scope s in
    subst P (sym e) record {
      ascending = IsStrictlyIncreasing-dedup sorted up;
      members = λ b. (
        λ h. (same_bits l xs scope b same).0 ((to b).0 (Contains-permutation sorted listed b (IsPermutation-sym listed sorted moved) (Contains-from_dedup eqb sorted b h))),
        λ h. Contains-dedup_nat sorted b (Contains-permutation listed sorted b moved ((to b).1 ((same_bits l xs scope b same).1 h))),
      );
    }

pub bits_known : (l : LayoutState) (scope : List VarId) (bits : List ℕ) → AreBitsOf l scope bits → All (λ b. b < length l.places) bits
bits_known l scope bits are i d within =
    let r = place_of_bit l scope (get_or bits i d) ((are.members (get_or bits i d)).0 (Contains-get_or bits i d within)) in
    slice_get_within l.places (get_or bits i d) r.0 r.1
