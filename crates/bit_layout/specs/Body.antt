-- How a layout is kept: beside the places of the bits, the bits of each variable.
use Rattle.std.specs.Prelude.{◌≡◌, ℕ, List, Some, map, length, take, slice_get, sum_by}
use Rattle.std.specs.List.{AllZip, enumerate_from, flat_map, range_with_len}
use Rattle.set_meaning.specs.declared.kinds.Kind.{Kind}
use Rattle.bit_layout.specs.declared.places.Place.{Place}
use Rattle.bit_layout.specs.declared.layout.Layout.TheInside.{Inside}
use Rattle.bit_layout.specs.Words.{width_of}
use Rattle.bit_layout.specs.Order.{LayoutState, IsLayout, element_at}

abbrev pub place_of : ℕ → Kind → ℕ → Place
place_of v k i = record { element = element_at k i; variable = record { 0 = v }; position = i }

-- the places of variable number v
abbrev pub places_of : ℕ → Kind → List Place
places_of v k = map (place_of v k) (range_with_len 0 (width_of k))

-- the places of all variables, in file order
abbrev pub file_places : List Kind → List Place
file_places kinds = flat_map (λ e. places_of e.0 e.1) (enumerate_from 0 kinds)

-- for each variable how many places come before its own
abbrev pub starts_of : List Kind → List ℕ
starts_of kinds = map (λ v. sum_by width_of (take v kinds)) (range_with_len 0 (length kinds))

abbrev pub state : Inside → LayoutState
state a = record { kinds = a.kinds.items; places = a.places.items }

pub record IsKept (a : Inside) : Type 0 where
  pub layout : IsLayout (state a)
  pub bits : AllZip (λ p bit. slice_get a.places.items bit ≡ Some p) (file_places a.kinds.items) a.bits.items
  pub long : length a.places.items ≡ sum_by width_of a.kinds.items
  pub starts : a.starts.items ≡ starts_of a.kinds.items
