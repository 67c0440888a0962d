-- The values of a kind, and assignments. This project's own; the kinds are those of a FlatZinc variable declaration
-- (MiniZinc Handbook, FlatZinc grammar): `var bool`, `var` of a range or a set of integers, `var set of` a universe.
use Rattle.std.specs.Prelude.{true, false, ℤ, List, [], ◌∷◌, map, ⊤}
use Rattle.std.specs.List.{AllZip}
use Rattle.set_meaning.specs.declared.kinds.Value.{Value}
use Rattle.set_meaning.specs.declared.kinds.Value.TheVariants as value
use Rattle.set_meaning.specs.declared.kinds.Kind.{Kind}
use Rattle.set_meaning.specs.declared.kinds.Kind.TheVariants as kind
use Rattle.set_meaning.specs.Sets.{Has, IsAscending, IsSubset, subsets}

-- all values of the kind: false and true, the listed integers, or all subsets of the universe
abbrev pub initial_values : Kind → List Value
initial_values kind.Bool = value.Bool false ∷ value.Bool true ∷ []
initial_values (kind.Int numbers) = map value.Int numbers
initial_values (kind.Set universe) = map value.Set (subsets universe)

-- a set in order whose elements lie in the universe
pub record IsSetWithin (universe set : List ℤ) : Type 0 where
  pub ascending : IsAscending set
  pub within : IsSubset set universe

-- the value is one of the kind
unfoldable pub InKind : Kind → Value → Type 0
InKind kind.Bool (value.Bool b) = ⊤
InKind (kind.Int numbers) (value.Int x) = Has numbers x
InKind (kind.Set universe) (value.Set set) = IsSetWithin universe set
InKind _ _ = ⊥

-- one value a variable, each in its variable's kind
abbrev pub IsAssignment : List Kind → List Value → Type 0
IsAssignment kinds values = AllZip InKind kinds values
