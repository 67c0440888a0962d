-- For what the bits of some variables stand. This project's own.
use Rattle.std.specs.Prelude.{◌≡◌, ℕ, List, Some, slice_get}
use Rattle.std.specs.List.{AllZip}
use Rattle.bit_layout.specs.declared.places.Place.{Place}
use Rattle.bit_layout.specs.Order.{LayoutState}

-- for each bit of the list, in order, its place
abbrev pub ArePlacesOf : LayoutState → List ℕ → List Place → Type 0
ArePlacesOf l bits places = AllZip (λ bit p. slice_get l.places bit ≡ Some p) bits places
