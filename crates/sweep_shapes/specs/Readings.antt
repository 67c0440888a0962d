-- Constraints that say the same by another relation; words of this crate's private helpers. That an element relation with a constant place is
-- an equality, and that a conjunction or disjunction with a constant truth value is a clause, is this project's own use of the definitions.
use Rattle.std.specs.Prelude.{◌≡◌, ℕ, suc, ℤ, pos, Bool, List, [], ◌∷◌, Option, None, Some, slice_get, ⊤}
use Rattle.set_meaning.specs.declared.kinds.Kind.{Kind}
use Rattle.set_meaning.specs.declared.kinds.Value.{Value}
use Rattle.set_meaning.specs.declared.kinds.Value.TheVariants as value
use Rattle.set_meaning.specs.declared.problems.VarId.{VarId}
use Rattle.set_meaning.specs.declared.problems.Term.{Term}
use Rattle.set_meaning.specs.declared.problems.Term.TheVariants.{Const}
use Rattle.set_meaning.specs.declared.problems.Arg.TheVariants.{One, Many}
use Rattle.set_meaning.specs.declared.problems.Relation.{Relation}
use Rattle.set_meaning.specs.declared.problems.Relation.TheVariants.{SetEq, ArraySetElement, IntEq, ArrayIntElement, BoolEq, ArrayBoolElement, BoolClause}
use Rattle.set_meaning.specs.declared.problems.Constraint.{Constraint}
use Rattle.set_meaning.specs.Kinds.{IsAssignment}
use Rattle.set_meaning.specs.Relations.{Holds}
use Rattle.sweep_shapes.specs.declared.readings.Said.{Said}
use Rattle.sweep_shapes.specs.declared.readings.Said.TheVariants as said
use Rattle.sweep_shapes.specs.Slots.{IsReading}

-- the equality of the items of an element relation
abbrev pub equality_of : Relation → Option Relation
equality_of ArraySetElement = Some SetEq
equality_of ArrayIntElement = Some IntEq
equality_of ArrayBoolElement = Some BoolEq
equality_of _ = None

-- the arguments are a constant place, an array, and one more term
abbrev pub IsPick : Constraint → ℤ → List Term → Term → Type 0
IsPick c place items x = c.args ≡ One (Const (value.Int place)) ∷ Many items ∷ One x ∷ []

-- the arguments are a constant place of an array, its items, and x; the item at the place is this term
pub record IsItemOf (c : Constraint) (item x : Term) : Type 0 where
  pub index : ℕ
  pub items : List Term
  pub args : c.args ≡ One (Const (value.Int (pos (suc index)))) ∷ Many items ∷ One x ∷ []
  pub there : slice_get items index ≡ Some item

-- the item at the place, which counts from 1
abbrev pub IsItemAt : List Term → ℤ → Term → Type 0
IsItemAt items place item = (k : ℕ) × (place ≡ pos (suc k)) × (slice_get items k ≡ Some item)

-- the place is none of the array
abbrev pub IsNoPlace : List Term → ℤ → Type 0
IsNoPlace items place = (k : ℕ) → place ≡ pos (suc k) → slice_get items k ≡ None

-- the two terms are in the relation
abbrev pub relates : Relation → Term → Term → Constraint
relates relation a b = record { relation = relation; args = One a ∷ One b ∷ []; reif = None }

-- the arguments are an array and a constant truth value
abbrev pub IsArrayTruth : Constraint → List Term → Bool → Type 0
IsArrayTruth c items truth = c.args ≡ Many items ∷ One (Const (value.Bool truth)) ∷ []

-- one of the first terms is true, or one of the others is false
abbrev pub clause_of : List Term → List Term → Constraint
clause_of positive negative = record { relation = BoolClause; args = Many positive ∷ Many negative ∷ []; reif = None }

-- what is said of the constraint
abbrev pub IsSaid : List Kind → Constraint → List VarId → Said → Type 0
IsSaid kinds c variables said.Never = (values : List Value) → IsAssignment kinds values → Holds c values → ⊥
IsSaid kinds c variables (said.By read truth) = IsReading kinds c variables read truth
IsSaid kinds c variables said.Same = ⊤
