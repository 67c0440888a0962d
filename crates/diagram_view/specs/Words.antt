-- Sets of words over a list of bits, where a word is the list of its values at these bits, and such a set of a ref. This
-- project's own; positions are counted from 0.
use Rattle.std.specs.Prelude.{◌≡◌, ℕ, ◌<◌, Bool, true, false, List, [], ◌∷◌, length, Some}
use Rattle.std.specs.List.{slice_get}
use Rattle.diagram_arena.specs.declared.nodes.Ref.{Ref}
use Rattle.diagram_arena.specs.Table.{Word, Table, has}
use Rattle.diagram_arena.specs.Part.{with_bit}

-- the word that gives each bit of the list the value at the same position, and every other bit false
abbrev pub word_over : List ℕ → List Bool → Word
word_over [] vs = λ c. false
word_over (b ∷ bs) [] = λ c. false
word_over (b ∷ bs) (v ∷ vs) = with_bit (word_over bs vs) b v

-- a set of lists of so many values, by its test; lists of another length do not matter
pub record ListWords : Type 0 where
  pub long : ℕ
  pub test : List Bool → Bool

-- the words of a ref over a list of bits
abbrev pub words_over : Table → Ref → List ℕ → ListWords
words_over t f bits = record { long = length bits; test = λ vs. has t f (word_over bits vs) }

-- vs is a word of the set: of its length, and in it
pub record IsWord (W : ListWords) (vs : List Bool) : Type 0 where
  pub long : length vs ≡ W.long
  pub inside : W.test vs ≡ true

-- every word has the value v at position i
abbrev pub AllHave : ListWords → ℕ → Bool → Type 0
AllHave W i v = (vs : List Bool) → IsWord W vs → slice_get vs i ≡ Some v

-- some word has the value v at position i
pub record SomeHas (W : ListWords) (i : ℕ) (v : Bool) : Type 0 where
  pub word : List Bool
  pub is : IsWord W word
  pub at : slice_get word i ≡ Some v

-- both values occur at position i
abbrev pub IsOpen : ListWords → ℕ → Type 0
IsOpen W i = (v : Bool) → SomeHas W i v

-- one value stands in every word at position i
abbrev pub IsSettled : ListWords → ℕ → Type 0
IsSettled W i = (v : Bool) × AllHave W i v

-- each position is settled
abbrev pub AreSettled : ListWords → Type 0
AreSettled W = (i : ℕ) → i < W.long → IsSettled W i

-- i is the first open position
pub record IsFirstOpen (W : ListWords) (i : ℕ) : Type 0 where
  pub here : IsOpen W i
  pub before : (j : ℕ) → j < i → IsSettled W j

-- there is no word
abbrev pub HasNoWord : ListWords → Type 0
HasNoWord W = (vs : List Bool) → length vs ≡ W.long → W.test vs ≡ false

-- vs is the one word
pub record IsOnlyWord (W : ListWords) (vs : List Bool) : Type 0 where
  pub is : IsWord W vs
  pub only : (us : List Bool) → IsWord W us → us ≡ vs

-- there are two words, which differ at some position
abbrev pub HasTwoWords : ListWords → Type 0
HasTwoWords W = (i : ℕ) × IsOpen W i
