-- The words of what satisfies a constraint: each variable's value as its word, at the variable's bits. This project's own, after
-- the diagrams of constraints over set variables (Hawkins, Lagoon and Stuckey, JAIR 2005).
use Rattle.std.specs.Prelude.{◌≡◌, ℕ, ◌≤◌, ◌↔◌, length, Bool, true, false, List, IsSomeAnd, slice_get, slice_index_or, Contains, map, filter_map, flat_map, ⊤}
use Rattle.std.specs.List.{range_with_len}
use Rattle.std.specs.List.Sorted.{IsStrictlyIncreasing}
use Rattle.std.specs.Option.{option_map_or}
use Rattle.set_meaning.specs.declared.kinds.Kind.{Kind}
use Rattle.set_meaning.specs.declared.kinds.Kind.TheVariants as kind
use Rattle.set_meaning.specs.declared.kinds.Value.{Value}
use Rattle.set_meaning.specs.declared.problems.VarId.{VarId}
use Rattle.set_meaning.specs.declared.problems.Arg.{Arg}
use Rattle.set_meaning.specs.Kinds.{IsAssignment}
use Rattle.set_meaning.specs.Relations.{terms_of, variable_of}
use Rattle.bit_layout.specs.declared.places.Place.{Place}
use Rattle.bit_layout.specs.Order.{LayoutState, width_at, bit_at, word_at, IsValueAt}
use Rattle.diagram_arena.specs.declared.nodes.Ref.{Ref}
use Rattle.diagram_arena.specs.Table.{Word, Words, Table, has, IsLive}
use Rattle.diagram_arena.specs.Reach.{Bits}
use Rattle.node_reclaim.specs.Growth.{NewArePartsOf, NewReachOnly}

-- ---- the variables of a constraint, and their bits

-- the variables that stand in the arguments, in order, as often as they stand there
abbrev pub variables_in : List Arg → List VarId
variables_in args = filter_map variable_of (flat_map terms_of args)

-- the bits of a variable, one for each position of its words
abbrev pub bits_at : LayoutState → VarId → List ℕ
bits_at l v = map (bit_at l v) (range_with_len 0 (width_at l v))

-- the bit stands for a position of one of these variables
abbrev pub IsBitOf : LayoutState → List VarId → ℕ → Type 0
IsBitOf l scope b = IsSomeAnd (slice_get l.places b) (λ p. Contains scope p.variable)

-- all bits of these variables, in the order of the problem's bits
pub record AreBitsOf (l : LayoutState) (scope : List VarId) (bits : List ℕ) : Type 0 where
  pub ascending : IsStrictlyIncreasing bits
  pub members : (b : ℕ) → Contains bits b ↔ IsBitOf l scope b

-- the variables have few bits together: no more than the scope of a constraint may have
abbrev pub HaveFewBits : LayoutState → List VarId → Type 0
HaveFewBits l variables = (bits : List ℕ) → AreBitsOf l variables bits → length bits ≤ 2048

-- ---- words and values

-- what a word has at the bits of a variable
abbrev pub read : LayoutState → VarId → Word → List Bool
read l v w = map w (bits_at l v)

-- each of these variables has an initial value whose word stands at its bits
abbrev pub Gives : LayoutState → List VarId → List Value → Word → Type 0
Gives l scope values w = (v : VarId) → Contains scope v → IsSomeAnd (slice_get values v.0) (IsValueAt l v (read l v w))

-- the bit that a place has where the variables have these values
abbrev pub bit_of_values : LayoutState → List Value → Place → Bool
bit_of_values l values p = option_map_or (λ x. slice_index_or (word_at l p.variable x) p.position false) (slice_get values p.variable.0) false

-- the word of an assignment: the words of its values, at all bits of the problem
abbrev pub word_of_values : LayoutState → List Value → Word
word_of_values l values = λ b. option_map_or (bit_of_values l values) (slice_get l.places b) false

-- a set variable's kind
abbrev pub IsSetKind : Kind → Type 0
IsSetKind kind.Bool = ⊥
IsSetKind (kind.Int numbers) = ⊥
IsSetKind (kind.Set universe) = ⊤

-- ---- sets of words

-- V has just the words that give these variables values which satisfy C, each the word of an assignment of initial values as far
-- as the bits of these variables go; the other bits are free
pub record AreWordsOf (l : LayoutState) (scope : List VarId) (C : List Value → Type 0) (V : Words) : Type 0 where
  pub sound : (w : Word) → V w ≡ true → (values : List Value) × IsAssignment l.kinds values × Gives l scope values w × C values
  pub whole : (w : Word) (values : List Value) → Gives l scope values w → C values → V w ≡ true

-- r is the diagram of the words of what satisfies C
pub record IsDiagramOf (l : LayoutState) (scope : List VarId) (C : List Value → Type 0) (t : Table) (r : Ref) : Type 0 where
  pub live : IsLive t r
  pub words : AreWordsOf l scope C (has t r)

-- there is a set of the words of what satisfies C, and each new node is a part of it
abbrev pub NewArePartsOfWords : LayoutState → List VarId → (List Value → Type 0) → Table → Table → Type 0
NewArePartsOfWords l scope C old new = (set : Words) × AreWordsOf l scope C set × NewArePartsOf old new set

-- each new node reaches only bits of these variables
abbrev pub NewReachOnlyScope : LayoutState → List VarId → Table → Table → Type 0
NewReachOnlyScope l scope old new = (set : Bits) → ((b : ℕ) → IsBitOf l scope b → set b ≡ true) → NewReachOnly old new set
