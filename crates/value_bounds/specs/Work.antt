-- The words of a domain over the bits of its variable, and the values of their bounds. Words of private helpers.
use Rattle.std.specs.Prelude.{◌≡◌, Bool, true, List, length}
use Rattle.set_meaning.specs.declared.kinds.Value.{Value}
use Rattle.set_meaning.specs.declared.kinds.Value.TheVariants as value
use Rattle.set_meaning.specs.declared.problems.VarId.{VarId}
use Rattle.set_meaning.specs.declared.problems.Bounds.{Bounds}
use Rattle.set_meaning.specs.declared.problems.Bounds.TheVariants as bounds
use Rattle.diagram_arena.specs.declared.nodes.Ref.{Ref}
use Rattle.diagram_arena.specs.Table.{Table}
use Rattle.bit_layout.specs.Order.{LayoutState, width_at, IsValueAt}
use Rattle.diagram_view.specs.declared.word_bounds.WordBounds.{WordBounds}
use Rattle.diagram_view.specs.Words.{ListWords, words_over, IsWord}
use Rattle.diagram_view.specs.Bounds.{AreInEvery, AreInSome, IsLeast, IsGreatest}
use Rattle.scope_words.specs.Words.{bits_at}

-- the words of a ref over the bits of a variable
abbrev pub domain_words : LayoutState → Table → VarId → Ref → ListWords
domain_words l t v r = words_over t r (bits_at l v)

-- b has the bounds of the words of W
pub record AreBoundsOfWords (W : ListWords) (b : WordBounds) : Type 0 where
  pub every_is : AreInEvery W b.every.items
  pub some_is : AreInSome W b.some.items
  pub least_is : IsLeast W b.least.items
  pub greatest_is : IsGreatest W b.greatest.items

-- the words of W are those of the values that pass f
pub record HaveValues (l : LayoutState) (v : VarId) (f : Value → Bool) (W : ListWords) : Type 0 where
  pub valued : (word : List Bool) → IsWord W word → (x : Value) × IsValueAt l v word x × (f x ≡ true)
  pub spelled : (x : Value) → f x ≡ true → (word : List Bool) × IsWord W word × IsValueAt l v word x

-- each word has a bit for each position of the variable's words
pub record AreLong (l : LayoutState) (v : VarId) (b : WordBounds) : Type 0 where
  pub every_long : length b.every.items ≡ width_at l v
  pub some_long : length b.some.items ≡ width_at l v
  pub least_long : length b.least.items ≡ width_at l v
  pub greatest_long : length b.greatest.items ≡ width_at l v

-- the word is that of an initial value
abbrev pub HasValueAt : LayoutState → VarId → List Bool → Type 0
HasValueAt l v word = (x : Value) × IsValueAt l v word x

-- the values of the words: of the least and the greatest, or of the one for every and the one for some
abbrev pub AreEnds : LayoutState → VarId → WordBounds → Bounds → Type 0
AreEnds l v b (bounds.Bool low high) = IsValueAt l v b.least.items (value.Bool low) × IsValueAt l v b.greatest.items (value.Bool high)
AreEnds l v b (bounds.Int low high) = IsValueAt l v b.least.items (value.Int low) × IsValueAt l v b.greatest.items (value.Int high)
AreEnds l v b (bounds.Set every some) = IsValueAt l v b.every.items (value.Set every) × IsValueAt l v b.some.items (value.Set some)

abbrev pub IsTruth : Value → Type 0
IsTruth (value.Bool b) = Unit {0}
IsTruth (value.Int x) = ⊥
IsTruth (value.Set s) = ⊥

abbrev pub IsNumber : Value → Type 0
IsNumber (value.Bool b) = ⊥
IsNumber (value.Int x) = Unit {0}
IsNumber (value.Set s) = ⊥

abbrev pub IsASet : Value → Type 0
IsASet (value.Bool b) = ⊥
IsASet (value.Int x) = ⊥
IsASet (value.Set s) = Unit {0}
