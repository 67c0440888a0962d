-- Constraints over up to three set variables, and their sides; words of this crate's private helpers.
use Rattle.std.specs.Prelude.{◌≡◌, ◌↔◌, ◌==◌, ℕ, ◌<◌, ◌≤◌, ℤ, Bool, true, cond, List, [], ◌∷◌, length, Option, None, Some, slice_get, Contains}
use Rattle.std.specs.List.{filter_map, flat_map}
use Rattle.set_meaning.specs.declared.kinds.Kind.{Kind}
use Rattle.set_meaning.specs.declared.kinds.Kind.TheVariants as kind
use Rattle.set_meaning.specs.declared.kinds.Value.{Value}
use Rattle.set_meaning.specs.declared.kinds.Value.TheVariants as value
use Rattle.set_meaning.specs.declared.problems.VarId.{VarId}
use Rattle.set_meaning.specs.declared.problems.Term.{Term}
use Rattle.set_meaning.specs.declared.problems.Term.TheVariants.{Const}
use Rattle.set_meaning.specs.declared.problems.Arg.TheVariants.{One}
use Rattle.set_meaning.specs.declared.problems.Relation.TheVariants.{SetIn, SetCard}
use Rattle.set_meaning.specs.declared.problems.Constraint.{Constraint}
use Rattle.set_meaning.specs.Kinds.{IsAssignment}
use Rattle.set_meaning.specs.Rows.{FitsRow}
use Rattle.set_meaning.specs.Relations.{HoldsOf, Holds, terms_of, variable_of}
use Rattle.log_rules.specs.Boxes.{Sides}
use Rattle.sweep_scopes.specs.declared.meeting.Slot.{Slot}
use Rattle.sweep_sets.specs.Shapes.{HasTruth}

-- the node of the variable's side; node 1, which accepts every word, where it has none
abbrev pub node_in : Sides → ℕ → ℕ
node_in [] v = 1
node_in (side ∷ sides) v = cond (side.0 == v) side.1 (node_in sides v)

-- the slot is of the i-th variable with its side, or where there are no more, of the first with node 1
pub record IsSlot (sides : Sides) (variables : List VarId) (i : ℕ) (slot : Slot) : Type 0 where
  pub variable : i < length variables → slice_get variables i ≡ Some slot.variable
  pub side : i < length variables → slot.root ≡ node_in sides slot.variable.0
  pub spare : length variables ≤ i → slice_get variables 0 ≡ Some slot.variable
  pub everything : length variables ≤ i → slot.root ≡ 1

-- a set variable
abbrev pub IsSetVariable : List Kind → VarId → Type 0
IsSetVariable kinds v = (u : List ℤ) × (slice_get kinds v.0 ≡ Some (kind.Set u))

abbrev pub AreSetVariables : List Kind → List VarId → Type 0
AreSetVariables kinds variables = (v : VarId) → Contains variables v → IsSetVariable kinds v

-- the relation is to have this truth value
abbrev pub AsksFor : Bool → Option Term → Type 0
AsksFor truth None = truth ≡ true
AsksFor truth (Some (Const (value.Bool b))) = b ≡ truth
AsksFor truth _ = ⊥

-- the constraint says, over these variables, that the relation of the other has the truth value
pub record IsReading (kinds : List Kind) (c : Constraint) (variables : List VarId) (read : Constraint) (truth : Bool) : Type 0 where
  pub fits : FitsRow kinds read
  pub among : (v : VarId) → Contains (filter_map variable_of (flat_map terms_of read.args)) v → Contains variables v
  pub same : (values : List Value) → IsAssignment kinds values → HasTruth truth (HoldsOf read.relation read.args values) ↔ Holds c values

-- the constraint is that x is an element of the set
pub record IsMembership (c : Constraint) (x : ℤ) (set : Term) : Type 0 where
  pub relation : c.relation ≡ SetIn
  pub args : c.args ≡ One (Const (value.Int x)) ∷ One set ∷ []

-- the constraint is that the set has so many elements
pub record IsCardinality (c : Constraint) (size : ℤ) (set : Term) : Type 0 where
  pub relation : c.relation ≡ SetCard
  pub args : c.args ≡ One set ∷ One (Const (value.Int size)) ∷ []
