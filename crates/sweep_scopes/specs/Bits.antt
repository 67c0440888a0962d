-- The bits of some variables; words of this crate's private helpers.
use Rattle.std.specs.Prelude.{◌≡◌, ℕ, ◌↔◌, List, Some, IsSomeAnd, slice_get, Contains, map}
use Rattle.std.specs.List.{AllZip, range_with_len}
use Rattle.std.specs.List.Sorted.{IsStrictlyIncreasing}
use Rattle.set_meaning.specs.declared.problems.VarId.{VarId}
use Rattle.bit_layout.specs.declared.places.Place.{Place}
use Rattle.bit_layout.specs.Order.{LayoutState, width_at, bit_at}

-- the bits of a variable, one for each position of its words
abbrev pub bits_at : LayoutState → VarId → List ℕ
bits_at l v = map (bit_at l v) (range_with_len 0 (width_at l v))

-- the bit stands for a position of one of these variables
abbrev pub IsBitOf : LayoutState → List VarId → ℕ → Type 0
IsBitOf l scope b = IsSomeAnd (slice_get l.places b) (λ p. Contains scope p.variable)

-- all bits of these variables, in the order of the problem's bits
pub record AreBitsOf (l : LayoutState) (scope : List VarId) (bits : List ℕ) : Type 0 where
  pub ascending : IsStrictlyIncreasing bits
  pub members : (b : ℕ) → Contains bits b ↔ IsBitOf l scope b

-- for each bit of the list, in order, its place
abbrev pub ArePlacesOf : LayoutState → List ℕ → List Place → Type 0
ArePlacesOf l bits places = AllZip (λ bit p. slice_get l.places bit ≡ Some p) bits places
