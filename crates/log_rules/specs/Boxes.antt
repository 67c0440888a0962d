-- Boxes: sides that are nodes of a table, and the assignments in a box. A side names a variable and the node from which its values'
-- words are accepted. This project's own (generalised nogoods on set domains, after Gange, Stuckey and Lagoon, JAIR 2010).
use Rattle.std.specs.Prelude.{◌≡◌, ℕ, ◌<◌, ◌==◌, Bool, true, not, ◌||◌, ◌&&◌, cond, List, [], Some, slice_get, IsSomeAnd, All}
use Rattle.std.specs.List.{list_all}
use Rattle.std.specs.Option.{option_map_or}
use Rattle.std.specs.Ordering.{nat_cmp}
use Rattle.std.specs.List.Sorted.{IsStrictlySortedBy}
use Rattle.set_meaning.specs.declared.kinds.Value.{Value}
use Rattle.set_meaning.specs.declared.kinds.Kind.{Kind}
use Rattle.set_meaning.specs.declared.problems.Constraint.{Constraint}
use Rattle.set_meaning.specs.Kinds.{InKind, IsAssignment}
use Rattle.set_meaning.specs.Relations.{Holds}
use Rattle.bit_layout.specs.Words.{word_of, width_of}
use Rattle.log_rules.specs.declared.nodes.Node.{Node}
use Rattle.log_rules.specs.Tables.{walk, Tests, next_node}

-- the sides of a box: variables, and the node of each
abbrev pub Sides : Type 0
Sides = List (ℕ × ℕ)

-- the value is one of the variable's initial values
abbrev pub IsInitial : List Kind → ℕ → Value → Type 0
IsInitial kinds v x = IsSomeAnd (slice_get kinds v) (λ k. InKind k x)

-- the word of a value of the variable
abbrev pub word_at : List Kind → ℕ → Value → List Bool
word_at kinds v x = option_map_or (λ k. word_of k x) (slice_get kinds v) []

-- whether the value is in the box's side of the variable: each side that names the variable accepts its word. Without such a side
-- every value is in it
unfoldable pub side_of : List Kind → List Node → Sides → ℕ → Value → Bool
side_of kinds table sides v x = list_all (λ side. not (side.0 == v) || walk table side.1 (word_at kinds v x)) sides

-- each value of the assignment is in its variable's side
unfoldable pub IsWithin : (ℕ → Value → Bool) → List Value → Type 0
IsWithin box values = (v : ℕ) (x : Value) → slice_get values v ≡ Some x → box v x ≡ true

abbrev pub InBox : List Kind → List Node → Sides → List Value → Type 0
InBox kinds table sides values = IsWithin (side_of kinds table sides) values

-- each initial value in a side of the one box is in that of the other
unfoldable pub LiesIn : List Kind → (ℕ → Value → Bool) → (ℕ → Value → Bool) → Type 0
LiesIn kinds box other = (v : ℕ) (x : Value) → IsInitial kinds v x → box v x ≡ true → other v x ≡ true

-- the union of the two sides at the variable, and their intersection elsewhere
abbrev pub resolvent : (ℕ → Value → Bool) → (ℕ → Value → Bool) → ℕ → ℕ → Value → Bool
resolvent box other pivot = λ v x. cond (v == pivot) (box v x || other v x) (box v x && other v x)

-- the box of all assignments
abbrev pub everything : ℕ → Value → Bool
everything v x = true

-- some initial values in the sides satisfy the constraint
pub record SomeSatisfy (kinds : List Kind) (table : List Node) (sides : Sides) (c : Constraint) : Type 0 where
  pub values : List Value
  pub assignment : IsAssignment kinds values
  pub inside : InBox kinds table sides values
  pub holds : Holds c values

-- ---- sides

-- each node that is reached from node n tests a place that is below the width
unfoldable pub FitsWidth : List Node → ℕ → ℕ → Type 0
FitsWidth table n width = (place : ℕ) → Tests table n place → place < width

-- the side names a variable and a node of the table, whose tests are of the variable's words
pub record IsSide (kinds : List Kind) (table : List Node) (side : ℕ × ℕ) : Type 0 where
  pub node : side.1 < next_node table
  pub variable : IsSomeAnd (slice_get kinds side.0) (λ k. FitsWidth table side.1 (width_of k))

-- sides in order, each of another variable
pub record AreSides (kinds : List Kind) (table : List Node) (sides : Sides) : Type 0 where
  pub ascending : IsStrictlySortedBy (λ a b. nat_cmp a.0 b.0) sides
  pub each : All (IsSide kinds table) sides
