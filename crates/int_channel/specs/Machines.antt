-- The machines of what a relation is made of; words of this crate's private helpers.
use Rattle.std.specs.Prelude.{◌≡◌, ◌↔◌, ℕ, ◌<◌, ◌==◌, true, ◌&&◌, if◌then◌else◌, ℤ, pos, List, [], ◌∷◌, ◌++◌, map, length, Option, Some, None, slice_get, IsSomeAnd, All}
use Rattle.set_meaning.specs.declared.kinds.Kind.{Kind}
use Rattle.set_meaning.specs.declared.kinds.Kind.TheVariants as kind
use Rattle.set_meaning.specs.declared.kinds.Value.{Value}
use Rattle.set_meaning.specs.declared.problems.VarId.{VarId}
use Rattle.set_meaning.specs.declared.problems.Arg.{Arg}
use Rattle.set_meaning.specs.declared.problems.Relation.{Relation}
use Rattle.set_meaning.specs.Sets.{Has}
use Rattle.set_meaning.specs.Relations.{HoldsOf}
use Rattle.diagram_arena.specs.Table.{Word}
use Rattle.bit_layout.specs.Order.{LayoutState, width_at, bit_at, element_at}
use Rattle.bit_machine.specs.Rules.{Rules, accepts, side_by_side}
use Rattle.scope_words.specs.Words.{Gives, variables_in, IsSetKind, AreBitsOf, AreWordsOf}
use Rattle.table_machine.specs.Tables.{Tables, AreTables, rules}
use Rattle.linear_machine.specs.Sums.{LinearState}
use Rattle.linear_machine.specs.Steps.{rules_of}
use Rattle.linear_terms.specs.Terms.{HasBitsOf}
use Rattle.int_channel.specs.declared.forms.Atom.{Atom}
use Rattle.int_channel.specs.declared.forms.Atom.TheVariants.{Sum, Member}
use Rattle.int_channel.specs.declared.forms.Branch.{Branch}
use Rattle.int_channel.specs.Forms.{BranchHolds, IsSmallSum}

-- ---- membership

-- the universe of the kind does not have the element
abbrev pub HasNot : ℤ → Kind → Type 0
HasNot e kind.Bool = ⊥
HasNot e (kind.Int numbers) = ⊥
HasNot e (kind.Set universe) = Has universe e → ⊥

-- the bit of an element of the set variable's universe, where it is one
abbrev pub IsBitOfElement : LayoutState → VarId → ℤ → Option ℕ → Type 0
IsBitOfElement l v e (Some bit) = (i : ℕ) × (i < width_at l v) × (bit_at l v i ≡ bit) × IsSomeAnd (slice_get l.kinds v.0) (λ k. element_at k i ≡ Some e)
IsBitOfElement l v e None = IsSomeAnd (slice_get l.kinds v.0) (HasNot e)

abbrev pub weight_of : Option ℕ → ℕ → ℤ
weight_of (Some own) bit = if own == bit then pos 1 else pos 0
weight_of None bit = pos 0

-- ---- branches

-- the bits have those of each variable that it speaks of, and its numbers are small
abbrev pub IsReadBy : LayoutState → List ℕ → Atom → Type 0
IsReadBy l bits (Sum s) = All (λ t. t.variable.0 < length l.kinds) s.terms × All (λ t. HasBitsOf l bits t.variable) s.terms × IsSmallSum s
IsReadBy l bits (Member v e) = HasBitsOf l bits v × IsSomeAnd (slice_get l.kinds v.0) IsSetKind

abbrev pub IsBranchReadBy : LayoutState → List ℕ → Branch → Type 0
IsBranchReadBy l bits b = IsReadBy l bits b.first × IsReadBy l bits b.second

abbrev pub variables_of_atom : Atom → List VarId
variables_of_atom (Sum s) = map (λ t. t.variable) s.terms
variables_of_atom (Member v e) = v ∷ []

abbrev pub variables_of_branch : Branch → List VarId
variables_of_branch b = variables_of_atom b.first ++ variables_of_atom b.second

-- two machines of sums that both accept where the branch holds
pub record IsMachineOfBranch (l : LayoutState) (bits : List ℕ) (b : Branch) (first second : LinearState) : Type 0 where
  pub first_long : length first.weights ≡ length bits
  pub second_long : length second.weights ≡ length bits
  pub accepted : (values : List Value) (w : Word) → Gives l (variables_of_branch b) values w
      → (accepts (side_by_side ◌&&◌ (rules_of first) (rules_of second)) bits w ≡ true) ↔ BranchHolds values b

-- ---- relations

-- over the bits of the arguments' variables the machine of initial values, and the rules of one that is read beside it
pub record IsMachineOf {S : Type 0} (l : LayoutState) (relation : Relation) (args : List Arg) (bits : List ℕ) (initial : Tables) (own : Rules S) : Type 0 where
  pub bits_are : AreBitsOf l (variables_in args) bits
  pub tables : AreTables initial
  pub readings_long : length initial.readings ≡ length bits
  pub words : AreWordsOf l (variables_in args) (HoldsOf relation args) (accepts (side_by_side ◌&&◌ (rules initial) own) bits)
