-- What relations of integers and Booleans are made of: linear sums that are compared with 0, and choices. This project's own; words of this
-- crate's private helpers.
use Rattle.std.specs.Prelude.{◌↔◌, ℤ, ◌+ℤ◌, List, IsSomeAnd, slice_get, All, Any, Contains, ⊤}
use Rattle.set_meaning.specs.declared.kinds.Kind.{Kind}
use Rattle.set_meaning.specs.declared.kinds.Value.{Value}
use Rattle.set_meaning.specs.declared.kinds.Value.TheVariants as value
use Rattle.set_meaning.specs.declared.problems.VarId.{VarId}
use Rattle.set_meaning.specs.declared.problems.Arg.{Arg}
use Rattle.set_meaning.specs.declared.problems.Relation.{Relation}
use Rattle.set_meaning.specs.Sets.{Has}
use Rattle.set_meaning.specs.Kinds.{InKind}
use Rattle.set_meaning.specs.Relations.{HoldsOf}
use Rattle.scope_words.specs.Words.{variables_in, IsSetKind}
use Rattle.linear_machine.specs.Sums.{Compares}
use Rattle.linear_terms.specs.Terms.{AreTermsSmall, linear_sum}
use Rattle.int_channel.specs.declared.forms.LinearSum.{LinearSum}
use Rattle.int_channel.specs.declared.forms.Atom.{Atom}
use Rattle.int_channel.specs.declared.forms.Atom.TheVariants.{Sum, Member}
use Rattle.int_channel.specs.declared.forms.Branch.{Branch}

-- ---- what they say of values

-- the constant and the terms together compare so with 0
abbrev pub SumHolds : List Value → LinearSum → Type 0
SumHolds values s = Compares s.comparison (s.constant +ℤ linear_sum s.terms values)

-- a set that has the element
abbrev pub HasElement : ℤ → Value → Type 0
HasElement e (value.Set s) = Has s e
HasElement e (value.Bool b) = ⊥
HasElement e (value.Int x) = ⊥

abbrev pub AtomHolds : List Value → Atom → Type 0
AtomHolds values (Sum s) = SumHolds values s
AtomHolds values (Member v e) = IsSomeAnd (slice_get values v.0) (HasElement e)

abbrev pub BranchHolds : List Value → Branch → Type 0
BranchHolds values b = AtomHolds values b.first × AtomHolds values b.second

-- ---- of which variables, and how large

abbrev pub IsSmallSum : LinearSum → Type 0
IsSmallSum s = AreTermsSmall s.terms s.constant

-- it speaks of these variables alone, of a set where it asks for an element, and its numbers are small
abbrev pub IsAtomOver : List Kind → List VarId → Atom → Type 0
IsAtomOver kinds scope (Sum s) = All (λ t. Contains scope t.variable) s.terms × IsSmallSum s
IsAtomOver kinds scope (Member v e) = Contains scope v × IsSomeAnd (slice_get kinds v.0) IsSetKind

abbrev pub IsBranchOver : List Kind → List VarId → Branch → Type 0
IsBranchOver kinds scope b = IsAtomOver kinds scope b.first × IsAtomOver kinds scope b.second

-- ---- what is made of a relation

-- a value of the variable's kind
abbrev pub IsInitialValue : List Kind → VarId → Value → Type 0
IsInitialValue kinds v x = IsSomeAnd (slice_get kinds v.0) (λ k. InKind k x)

-- each of these variables has an initial value
abbrev pub HaveValues : List Kind → List VarId → List Value → Type 0
HaveValues kinds scope values = (v : VarId) → Contains scope v → IsSomeAnd (slice_get values v.0) (IsInitialValue kinds v)

-- the sum compares so with 0 just where the relation holds
pub record IsSumOf (kinds : List Kind) (relation : Relation) (args : List Arg) (s : LinearSum) : Type 0 where
  pub meaning : (values : List Value) → HaveValues kinds (variables_in args) values → HoldsOf relation args values ↔ SumHolds values s
  pub variables : All (λ t. Contains (variables_in args) t.variable) s.terms
  pub small : IsSmallSum s

-- some branch holds just where the relation does
pub record AreBranchesOf (kinds : List Kind) (relation : Relation) (args : List Arg) (bs : List Branch) : Type 0 where
  pub meaning : (values : List Value) → HaveValues kinds (variables_in args) values → HoldsOf relation args values ↔ Any (BranchHolds values) bs
  pub branches : All (IsBranchOver kinds (variables_in args)) bs
