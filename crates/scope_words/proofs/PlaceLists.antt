-- The places of bits, one after another.
use Rattle.std.proofs.Common.{◌≡◌, ℕ, ◌+◌, ◌<◌, List, length, get_or, Some, None, sym, ap, ◌∙◌, arith}
use Rattle.std.specs.Prelude.{slice_get}
use Rattle.std.specs.List.Sorted.{IsStrictlyIncreasing, IsStrictlySortedBy}
use Rattle.std.specs.declared.cmp.Ordering.TheVariants.{Less}
use Rattle.std.proofs.lemmas.Map.Keys.{sorted_from_strictly_increasing, sorted_from_all_adjacent, below_from_sorted, Less-from_sorted}
use Rattle.std.proofs.lemmas.Option.{get_or_from_slice_get, slice_get_within}
use Rattle.bit_layout.specs.declared.places.Place.{Place}
use Rattle.bit_layout.specs.Order.{LayoutState, IsLayout, place_cmp}
use Rattle.bit_layout.proofs.Sorting.{place_cmp_total}
use Rattle.bit_layout.proofs.Listing.{all_zip_long, all_zip_at}
use Rattle.scope_words.specs.Places.{ArePlacesOf}

pub places_less : (l : LayoutState) (a b : ℕ) (p q : Place) → IsLayout l → slice_get l.places a ≡ Some p → slice_get l.places b ≡ Some q → a < b → place_cmp p q ≡ Less
places_less l a b p q ok e f less =
    let before = Less-from_sorted place_cmp l.places a b p ok.order.ascending less (slice_get_within l.places b q f) in
    ap (λ x. place_cmp x q) (sym (get_or_from_slice_get l.places a p p e)) ∙ ap (place_cmp (get_or l.places a p)) (sym (get_or_from_slice_get l.places b q p f)) ∙ before

some_place : Place
some_place = record { element = None; variable = record { 0 = 0 }; position = 0 }

pub places_ascend : (l : LayoutState) (bits : List ℕ) (places : List Place) → IsLayout l → IsStrictlyIncreasing bits → ArePlacesOf l bits places → IsStrictlySortedBy place_cmp places
places_ascend l bits places ok up are =
    let long = all_zip_long (λ bit p. slice_get l.places bit ≡ Some p) bits places are in
    sorted_from_all_adjacent place_cmp_total places some_place (λ k within.
    let second : k + 1 < length bits = omega (arith, long, within) in
    places_less l (get_or bits k 0) (get_or bits (k + 1) 0) (get_or places k some_place) (get_or places (k + 1) some_place) ok
    (all_zip_at (λ bit p. slice_get l.places bit ≡ Some p) bits places k 0 some_place are (omega (arith, second)))
    (all_zip_at (λ bit p. slice_get l.places bit ≡ Some p) bits places (k + 1) 0 some_place are second)
    (below_from_sorted bits k (k + 1) 0 (sorted_from_strictly_increasing bits up) (omega arith) second))
