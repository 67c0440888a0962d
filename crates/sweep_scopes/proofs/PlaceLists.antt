-- The places of bits, one after another.
use Rattle.std.proofs.Common.{◌≡◌, ◌↔◌, ℕ, zero, suc, ◌+◌, ◌<◌, List, [], ◌∷◌, length, get_or, Some, None, Contains, refl, sym, ap, ◌∙◌, subst, inl, inr, arith}
use Rattle.std.specs.List.{AllZip}
use Rattle.std.proofs.lemmas.List.Elements.{Contains-get_or}
use Rattle.std.proofs.lemmas.Option.{slice_get-get_or}
use Rattle.set_meaning.specs.declared.problems.VarId.{VarId}
use Rattle.bit_layout.specs.Order.{IsPlace}
use Rattle.bit_layout.proofs.Rising.{nothing_in_empty, in_cons, in_head, in_tail}
use Rattle.bit_layout.proofs.Finding.{place_is_place}
use Rattle.sweep_rules.specs.SetPlaces.{AreSetPlaces}
use Rattle.sweep_scopes.proofs.Bits.{place_of_bit, is_bit_of}
use Rattle.std.specs.Prelude.{slice_get}
use Rattle.std.specs.List.Sorted.{IsStrictlyIncreasing, IsStrictlySortedBy}
use Rattle.std.specs.declared.cmp.Ordering.TheVariants.{Less}
use Rattle.std.proofs.lemmas.Map.Keys.{sorted_from_strictly_increasing, sorted_from_all_adjacent, below_from_sorted, Less-from_sorted}
use Rattle.std.proofs.lemmas.Option.{get_or_from_slice_get, slice_get_within}
use Rattle.bit_layout.specs.declared.places.Place.{Place}
use Rattle.bit_layout.specs.Order.{LayoutState, IsLayout, place_cmp}
use Rattle.bit_layout.proofs.Sorting.{place_cmp_total}
use Rattle.bit_layout.proofs.Listing.{all_zip_long, all_zip_at}
use Rattle.sweep_scopes.specs.Bits.{AreBitsOf, ArePlacesOf}

pub places_less : (l : LayoutState) (a b : ℕ) (p q : Place) → IsLayout l → slice_get l.places a ≡ Some p → slice_get l.places b ≡ Some q → a < b → place_cmp p q ≡ Less
places_less l a b p q ok e f less =
    let before = Less-from_sorted place_cmp l.places a b p ok.order.ascending less (slice_get_within l.places b q f) in
    ap (λ x. place_cmp x q) (sym (get_or_from_slice_get l.places a p p e)) ∙ ap (place_cmp (get_or l.places a p)) (sym (get_or_from_slice_get l.places b q p f)) ∙ before

some_place : Place
some_place = record { element = None; variable = record { 0 = 0 }; position = 0 }

pub places_ascend : (l : LayoutState) (bits : List ℕ) (places : List Place) → IsLayout l → IsStrictlyIncreasing bits → ArePlacesOf l bits places → IsStrictlySortedBy place_cmp places
places_ascend l bits places ok up are =
    let long = all_zip_long (λ bit p. slice_get l.places bit ≡ Some p) bits places are in
    sorted_from_all_adjacent place_cmp_total places some_place (λ k within.
    let second : k + 1 < length bits = omega (arith, long, within) in
    places_less l (get_or bits k 0) (get_or bits (k + 1) 0) (get_or places k some_place) (get_or places (k + 1) some_place) ok
    (all_zip_at (λ bit p. slice_get l.places bit ≡ Some p) bits places k 0 some_place are (omega (arith, second)))
    (all_zip_at (λ bit p. slice_get l.places bit ≡ Some p) bits places (k + 1) 0 some_place are second)
    (below_from_sorted bits k (k + 1) 0 (sorted_from_strictly_increasing bits up) (omega arith) second))

-- ---- the places of the bits of some variables

place_from : (l : LayoutState) (bits : List ℕ) (places : List Place) (p : Place) → ArePlacesOf l bits places → Contains places p → (b : ℕ) × Contains bits b × (slice_get l.places b ≡ Some p)
place_from l [] [] p are h = absurd (nothing_in_empty p h)
place_from l [] (q ∷ places) p are h = absurd are
place_from l (b ∷ bits) [] p are h = absurd are
place_from l (b ∷ bits) (q ∷ places) p are h = elim (in_cons q places p h) [
  | inl e ↦ (b, in_head b bits, are.0 ∙ ap Some e)
  | inr later ↦ let r = place_from l bits places p are.1 later in (r.0, in_tail b bits r.0 r.1, r.2)
]

place_to : (l : LayoutState) (bits : List ℕ) (places : List Place) (b : ℕ) (p : Place) → ArePlacesOf l bits places → Contains bits b → slice_get l.places b ≡ Some p → Contains places p
place_to l [] [] b p are h e = absurd (nothing_in_empty b h)
place_to l [] (q ∷ places) b p are h e = absurd are
place_to l (c ∷ bits) [] b p are h e = absurd are
place_to l (c ∷ bits) (q ∷ places) b p are h e = elim (in_cons c bits b h) [
  | inl same ↦
      let both : Some q ≡ Some p = sym are.0 ∙ ap (slice_get l.places) same ∙ e in
      let here : q ≡ p = cc in
      subst (Contains (q ∷ places)) here (in_head q places)
  | inr later ↦ in_tail q places p (place_to l bits places b p are.1 later e)
]

pub set_places_are : (l : LayoutState) (sets : List VarId) (bits : List ℕ) (places : List Place) → IsLayout l → AreBitsOf l sets bits → ArePlacesOf l bits places → AreSetPlaces l.kinds sets places
set_places_are l sets bits places ok are each = record {
  ascending = places_ascend l bits places ok are.ascending each;
  members = λ p. (
    λ h.
        let r = place_from l bits places p each h in
        let s = place_of_bit l sets r.0 ((are.members r.0).0 r.1) in
        let both : Some s.0 ≡ Some p = sym s.1 ∙ r.2 in
        let same : s.0 ≡ p = cc in
        (place_is_place l r.0 p ok r.2, subst (λ (q : Place). Contains sets q.variable) same s.2),
    λ h.
        let there = (ok.order.members p).1 h.0 in
        let k : ℕ = there.0 in
        let at : slice_get l.places k ≡ Some p = slice_get-get_or l.places k p there.1 ∙ ap Some there.2 in
        place_to l bits places k p each ((are.members k).1 (is_bit_of l sets k p at h.1)) at,
  );
}
