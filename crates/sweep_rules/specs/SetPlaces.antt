-- The bits of several set variables, read element by element. This project's own; that a set is its membership bits is of Hawkins, Lagoon
-- and Stuckey, JAIR 2005.
use Rattle.std.specs.Prelude.{◌↔◌, Bool, false, ℤ, List, Option, slice_get, option_and_then, Contains}
use Rattle.std.specs.Option.{option_map_or}
use Rattle.std.specs.List.Sorted.{IsStrictlySortedBy}
use Rattle.set_meaning.specs.declared.kinds.Kind.{Kind}
use Rattle.set_meaning.specs.declared.kinds.Value.{Value}
use Rattle.set_meaning.specs.declared.problems.VarId.{VarId}
use Rattle.set_meaning.specs.Arguments.{set_in}
use Rattle.bit_layout.specs.declared.places.Place.{Place}
use Rattle.bit_layout.specs.Words.{lists}
use Rattle.bit_layout.specs.Order.{IsPlace, place_cmp}

-- the set of a variable
abbrev pub set_at : List Value → VarId → Option (List ℤ)
set_at values v = option_and_then set_in (slice_get values v.0)

-- whether the set of the place's variable has the place's element
abbrev pub set_bit : List Value → Place → Bool
set_bit values p = option_map_or (λ set. option_map_or (lists set) p.element false) (set_at values p.variable) false

-- all places of these variables, by element, and within an element by variable
pub record AreSetPlaces (kinds : List Kind) (sets : List VarId) (places : List Place) : Type 0 where
  pub ascending : IsStrictlySortedBy place_cmp places
  pub members : (p : Place) → Contains places p ↔ (IsPlace kinds p × Contains sets p.variable)
