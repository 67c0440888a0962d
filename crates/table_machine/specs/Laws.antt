-- What is known of words, bits and scopes: the laws of the crates below, as one record.
use Rattle.std.specs.Prelude.{◌≡◌, ℕ, ◌+◌, ◌<◌, ℤ, pos, ◌+ℤ◌, List, Some, IsSomeAnd, slice_get, length, Contains}
use Rattle.set_meaning.specs.declared.kinds.Kind.{Kind}
use Rattle.set_meaning.specs.declared.kinds.Kind.TheVariants as kind
use Rattle.set_meaning.specs.declared.kinds.Value.{Value}
use Rattle.set_meaning.specs.declared.kinds.Value.TheVariants as value
use Rattle.set_meaning.specs.declared.problems.VarId.{VarId}
use Rattle.set_meaning.specs.Kinds.{InKind, IsAssignment}
use Rattle.set_meaning.specs.Sets.{Has, IsAscending}
use Rattle.diagram_arena.specs.Table.{Word}
use Rattle.bit_layout.specs.declared.places.Place.{Place}
use Rattle.bit_layout.specs.Words.{IsLeastWidth, bit_width, least, number, width_of, word_of}
use Rattle.bit_layout.specs.Order.{LayoutState, IsLayout, IsPlace, width_at, bit_at, StandsFor, IsBoolOrInt}
use Rattle.scope_words.specs.Words.{read, Gives, IsSetKind, IsBitOf}

pub record WordLaws : Type 0 where
  pub widths : (n : ℕ) → IsLeastWidth n (bit_width n)
  pub long : (k : Kind) (x : Value) → InKind k x → length (word_of k x) ≡ width_of k
  pub offsets : (numbers : List ℤ) (x : ℤ) → IsAscending numbers → Has numbers x → (least numbers +ℤ pos (number (word_of (kind.Int numbers) (value.Int x)))) ≡ x
  pub ascending : (l : LayoutState) (v : VarId) (i j : ℕ) → IsLayout l → i < j → j < width_at l v → bit_at l v i < bit_at l v j
  pub stands : (l : LayoutState) (v : VarId) (i : ℕ) → IsLayout l → i < width_at l v → StandsFor l (bit_at l v i) v i
  pub contiguous : (l : LayoutState) (v : VarId) (i : ℕ) → IsLayout l → IsSomeAnd (slice_get l.kinds v.0) IsBoolOrInt → i + 1 < width_at l v → bit_at l v (i + 1) ≡ bit_at l v i + 1
  pub places : (l : LayoutState) (bit : ℕ) (p : Place) → IsLayout l → slice_get l.places bit ≡ Some p → IsPlace l.kinds p
  pub read_long : (l : LayoutState) (v : VarId) (w : Word) → length (read l v w) ≡ width_at l v
  pub read_at : (l : LayoutState) (v : VarId) (w : Word) (i : ℕ) → i < width_at l v → slice_get (read l v w) i ≡ Some (w (bit_at l v i))
  pub of_scope : (l : LayoutState) (scope : List VarId) (v : VarId) (i : ℕ) → IsLayout l → Contains scope v → i < width_at l v → IsBitOf l scope (bit_at l v i)
  pub within : (l : LayoutState) (b : ℕ) (p : Place) → IsLayout l → slice_get l.places b ≡ Some p → p.position < width_at l p.variable
  pub back : (l : LayoutState) (b : ℕ) (p : Place) → IsLayout l → slice_get l.places b ≡ Some p → bit_at l p.variable p.position ≡ b
  pub sets : (l : LayoutState) (scope : List VarId) (w : Word) → IsLayout l → ((v : VarId) → Contains scope v → IsSomeAnd (slice_get l.kinds v.0) IsSetKind)
      → (values : List Value) × IsAssignment l.kinds values × Gives l scope values w
