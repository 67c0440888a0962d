-- The element relation of sets as a choice of branches, "the index is the place of the item, and the item is the set"; words of this crate's
-- private helpers.
use Rattle.std.specs.Prelude.{◌≡◌, ◌↔◌, ◌⊎◌, ◌&&◌, ℕ, suc, ◌<◌, true, ℤ, pos, ◌-ℤ◌, List, [], ◌∷◌, Option, Some, length, slice_get, All, Any, IfSome, Contains, ⊤}
use Rattle.set_meaning.specs.declared.kinds.Value.{Value}
use Rattle.set_meaning.specs.declared.kinds.Value.TheVariants as value
use Rattle.set_meaning.specs.declared.problems.VarId.{VarId}
use Rattle.set_meaning.specs.declared.problems.Term.{Term}
use Rattle.set_meaning.specs.declared.problems.Term.TheVariants.{Const, Var}
use Rattle.set_meaning.specs.declared.problems.Arg.{Arg}
use Rattle.set_meaning.specs.declared.problems.Arg.TheVariants.{One, Many}
use Rattle.set_meaning.specs.declared.problems.Relation.TheVariants.{ArraySetElement}
use Rattle.set_meaning.specs.Arguments.{int_of_term, set_of_term, OfTwo}
use Rattle.set_meaning.specs.Relations.{HoldsOf}
use Rattle.diagram_arena.specs.Table.{Word}
use Rattle.bit_layout.specs.Order.{LayoutState}
use Rattle.bit_machine.specs.declared.combined.Both.{Both}
use Rattle.bit_machine.specs.Rules.{accepts, side_by_side}
use Rattle.scope_words.specs.Words.{variables_in, Gives, AreBitsOf, AreWordsOf}
use Rattle.table_machine.specs.Tables.{Tables, AreTables, rules}
use Rattle.choice_machine.specs.Choices as choice
use Rattle.choice_machine.specs.Choices.{ChoiceState}
use Rattle.linear_machine.specs.Sums.{LinearState}
use Rattle.linear_machine.specs.Steps as linear
use Rattle.linear_terms.specs.declared.terms.LinearTerm.{LinearTerm}
use Rattle.element_machine.specs.Reading.{AreGrouped, by_elements}
use Rattle.set_shapes.specs.declared.tests_of_elements.ElementTest.TheVariants.{Equal}
use Rattle.set_shapes.specs.declared.passing.EqualSets.{EqualSets}
use Rattle.set_shapes.specs.Operands.{IsTermOf}
use Rattle.set_shapes.specs.Tests.{all_pass}
use Rattle.set_shapes.specs.Passing.{passing}

-- ---- one branch

-- the index, less the place of an item that is counted from 0: the term of a variable, and what is left
abbrev pub index_terms : Term → List LinearTerm
index_terms (Const v) = []
index_terms (Var x) = record { coefficient = pos 1; variable = x } ∷ []

abbrev pub integer_of : Value → ℤ
integer_of (value.Bool b) = pos 0
integer_of (value.Int x) = x
integer_of (value.Set s) = pos 0

abbrev pub known_part : Term → ℤ
known_part (Const v) = integer_of v
known_part (Var x) = pos 0

abbrev pub index_constant : Term → ℕ → ℤ
index_constant index number = known_part index -ℤ pos (suc number)

-- the index is the item's place, which is counted from 1
abbrev pub IsAtIndex : Term → ℕ → List Value → Type 0
IsAtIndex index number values = int_of_term values index ≡ Some (pos (suc number))

-- the two terms are the same set
abbrev pub AreEqualSets : Term → Term → List Value → Type 0
AreEqualSets item set values = OfTwo (λ a c. a ≡ c) (set_of_term values item) (set_of_term values set)

abbrev pub BranchHolds : Term → ℕ → Term → Term → List Value → Type 0
BranchHolds index number item set values = IsAtIndex index number values × AreEqualSets item set values

-- the bits are those of a scope that has the variables of these terms
abbrev pub AreBitsWith : LayoutState → List VarId → List ℕ → List Term → Type 0
AreBitsWith l scope bits terms = AreBitsOf l scope bits × All (IsTermOf scope) terms

-- ---- the machines of branches

-- a machine of equality that reads bits of a scope as long as this
pub record IsEqualityOver (places : ℕ) (m : EqualSets) : Type 0 where
  pub long : length m.places.items ≡ places
  pub grouped : AreGrouped (length m.table.constants.items) m.table.entries.items
  pub below : All (λ p. IfSome p (λ place. place < length m.table.entries.items)) m.places.items

abbrev pub AcceptsEquality : List ℕ → Word → EqualSets → Type 0
AcceptsEquality bits w m = accepts (passing m.places.items (by_elements (all_pass Equal true) m.table.constants.items m.table.entries.items)) bits w ≡ true

abbrev pub Branch : Type 0
Branch = Both LinearState EqualSets

abbrev pub IsBranchOver : ℕ → Branch → Type 0
IsBranchOver places m = (length m.first.weights ≡ places) × IsEqualityOver places m.second

abbrev pub Accepted : List ℕ → Word → Branch → Type 0
Accepted bits w m = accepts (side_by_side ◌&&◌ (linear.rules_of m.first) (passing m.second.places.items (by_elements (all_pass Equal true) m.second.table.constants.items m.second.table.entries.items))) bits w ≡ true

-- of a word that gives values to a scope with these terms, the machine accepts what P holds of
abbrev pub Tells : LayoutState → List ℕ → List Term → (Word → Type 0) → (List Value → Type 0) → Type 0
Tells l bits terms Accepts P = (scope : List VarId) (values : List Value) (w : Word) → AreBitsWith l scope bits terms → Gives l scope values w → Accepts w ↔ P values

-- the branch of one of the first items holds
abbrev pub SomeBranchHolds : Term → ℕ → List Term → Term → List Value → Type 0
SomeBranchHolds index count items set values = (k : ℕ) × (item : Term) × (k < count) × (slice_get items k ≡ Some item) × BranchHolds index k item set values

-- ---- the relation

abbrev pub IsOneTerm : Arg → Type 0
IsOneTerm (One t) = ⊤
IsOneTerm (Many ts) = ⊥

abbrev pub AreManyTerms : Arg → Type 0
AreManyTerms (One t) = ⊥
AreManyTerms (Many ts) = ⊤

abbrev pub ArePlaceItemsAndSet : List Arg → Type 0
ArePlaceItemsAndSet (a ∷ b ∷ c ∷ []) = IsOneTerm a × AreManyTerms b × IsOneTerm c
ArePlaceItemsAndSet _ = ⊥

-- over the bits of the arguments' variables the machine of initial values, and beside it that of the choice
pub record IsMachineOf (l : LayoutState) (args : List Arg) (bits : List ℕ) (initial : Tables) (own : ChoiceState) : Type 0 where
  pub bits_are : AreBitsOf l (variables_in args) bits
  pub tables : AreTables initial
  pub readings_long : length initial.readings ≡ length bits
  pub places_long : own.places ≡ length bits
  pub words : AreWordsOf l (variables_in args) (HoldsOf ArraySetElement args) (accepts (side_by_side ◌&&◌ (rules initial) (choice.rules_of own)) bits)
