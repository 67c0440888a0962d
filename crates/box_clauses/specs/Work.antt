-- Where a box step stands among the sides. Words of private helpers.
use Rattle.std.specs.Prelude.{◌≡◌, ◌≢◌, ℕ, ◌<◌, ◌≤◌, Bool, Option, Some, None, List, length, slice_get, MatchBool}
use Rattle.set_meaning.specs.declared.kinds.Value.{Value}
use Rattle.bit_layout.specs.Order.{LayoutState}
use Rattle.diagram_arena.specs.declared.nodes.Ref.{Ref}
use Rattle.diagram_arena.specs.Table.{Table}
use Rattle.search_rules.specs.Family.{Lies, Leaves}
use Rattle.exact_steps.specs.Domains.{values_in, family}
use Rattle.box_clauses.specs.declared.sides.Side.{Side}

-- the domain of the side's variable lies in the side, or has a value that is not there
abbrev pub IsHeld : LayoutState → Table → List Ref → Side → Type 0
IsHeld l t domains s = Lies (family l t domains s.var.0) (values_in l t s.var s.set)

abbrev pub IsOutside : LayoutState → Table → List Ref → Side → Type 0
IsOutside l t domains s = Leaves (family l t domains s.var.0) (values_in l t s.var s.set)

-- the sides from one place to before another hold their domains
abbrev pub AreHeldFrom : LayoutState → Table → List Ref → List Side → ℕ → ℕ → Type 0
AreHeldFrom l t domains sides from to = (k : ℕ) (s : Side) → from ≤ k → k < to → slice_get sides k ≡ Some s
    → IsHeld l t domains s

-- from this place on, the first side that does not hold its domain
abbrev pub IsFirstOutside : LayoutState → Table → List Ref → List Side → ℕ → Option ℕ → Type 0
IsFirstOutside l t domains sides from None = AreHeldFrom l t domains sides from (length sides)
IsFirstOutside l t domains sides from (Some at) =
    (from ≤ at) × (at < length sides) × ((s : Side) → slice_get sides at ≡ Some s → IsOutside l t domains s)
    × AreHeldFrom l t domains sides from at

-- only the side at this place does not hold its domain
pub record IsOnlyOutside (l : LayoutState) (t : Table) (domains : List Ref) (sides : List Side) (at : ℕ) : Type 0 where
  pub within : at < length sides
  pub outside : (s : Side) → slice_get sides at ≡ Some s → IsOutside l t domains s
  pub others : (k : ℕ) (s : Side) → k ≢ at → slice_get sides k ≡ Some s → IsHeld l t domains s
