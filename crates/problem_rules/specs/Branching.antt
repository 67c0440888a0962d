-- The branching rule of the search, over families of values. This project's own; that a search over set domains splits a domain at one
-- bit of its diagram is of Hawkins, Lagoon and Stuckey, JAIR 2005.
use Rattle.std.specs.Prelude.{◌≡◌, ℕ, ◌<◌, Bool, true, ◌&&◌, List, Some, slice_get, slice_index_or, false}
use Rattle.set_meaning.specs.declared.kinds.Value.{Value}
use Rattle.set_meaning.specs.declared.kinds.Kind.{Kind}
use Rattle.bit_layout.specs.Words.{word_of}

-- the bit at a position of the word of a value
abbrev pub bit_of : Kind → ℕ → Value → Bool
bit_of k i x = slice_index_or (word_of k x) i false

-- some value of the set has this bit there
abbrev pub Occurs : (Value → Bool) → Kind → ℕ → Bool → Type 0
Occurs set k i b = (x : Value) × (set x ≡ true) × (bit_of k i x ≡ b)

-- The first variable in file order with more than one value, the first position of its words at which both bits occur, and of
-- its set the values with a true bit there.
pub record IsDecision (kinds : List Kind) (f : ℕ → Value → Bool) (v : ℕ) (s : Value → Bool) : Type 0 where
  pub single : (u : ℕ) (x y : Value) → u < v → f u x ≡ true → f u y ≡ true → x ≡ y
  pub kind : Kind
  pub known : slice_get kinds v ≡ Some kind
  pub position : ℕ
  pub both : (b : Bool) → Occurs (f v) kind position b
  pub settled : (i : ℕ) (x y : Value) → i < position → f v x ≡ true → f v y ≡ true → bit_of kind i x ≡ bit_of kind i y
  pub keeps : (x : Value) → s x ≡ (f v x && bit_of kind position x)
