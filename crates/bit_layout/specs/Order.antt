-- The order of all bits of a problem. This project's own.
use Rattle.std.specs.Prelude.{◌≡◌, ℕ, ◌<◌, ◌↔◌, ◌==◌, ◌&&◌, Bool, ℤ, List, [], Option, None, IsSomeAnd, slice_get, Contains, ⊤}
use Rattle.std.specs.List.{position_or_len}
use Rattle.std.specs.declared.cmp.Ordering.{Ordering}
use Rattle.std.specs.Option.{option_cmp, option_map_or}
use Rattle.std.specs.Ordering.{nat_cmp, int_cmp, ordering_then}
use Rattle.std.specs.List.Sorted.{IsStrictlySortedBy}
use Rattle.set_meaning.specs.declared.kinds.Value.{Value}
use Rattle.set_meaning.specs.declared.kinds.Kind.{Kind}
use Rattle.set_meaning.specs.declared.kinds.Kind.TheVariants as kind
use Rattle.set_meaning.specs.declared.problems.VarId.{VarId}
use Rattle.bit_layout.specs.declared.places.Place.{Place}
use Rattle.bit_layout.specs.Words.{width_of, word_of, IsValueOf}
use Rattle.bit_layout.specs.Limits.{AreWithinLimits}

-- the element for which a bit of the kind's words stands; for Booleans and integers there is none
abbrev pub element_at : Kind → ℕ → Option ℤ
element_at kind.Bool i = None
element_at (kind.Int numbers) i = None
element_at (kind.Set universe) i = slice_get universe i

-- a Boolean or an integer
abbrev pub IsBoolOrInt : Kind → Type 0
IsBoolOrInt kind.Bool = ⊤
IsBoolOrInt (kind.Int numbers) = ⊤
IsBoolOrInt (kind.Set universe) = ⊥

-- a place of the words of one of the variables
abbrev pub IsPlace : List Kind → Place → Type 0
IsPlace kinds p = IsSomeAnd (slice_get kinds p.variable.0) (λ k. (p.position < width_of k) × (p.element ≡ element_at k p.position))

-- which of two places is first: one without an element is before one with; then by element; then by variable, in file
-- order; then by position
abbrev pub place_cmp : Place → Place → Ordering
place_cmp p q =
    ordering_then (option_cmp int_cmp p.element q.element) (ordering_then (nat_cmp p.variable.0 q.variable.0) (nat_cmp p.position q.position))

-- each place of the variables' words, in this order
pub record IsOrder (kinds : List Kind) (places : List Place) : Type 0 where
  pub ascending : IsStrictlySortedBy place_cmp places
  pub members : (p : Place) → Contains places p ↔ IsPlace kinds p

-- a layout as its callers see it: the kinds of the variables, and the place of each bit
pub record LayoutState : Type 0 where
  pub kinds : List Kind
  pub places : List Place

-- what holds of every layout
pub record IsLayout (l : LayoutState) : Type 0 where
  pub limits : AreWithinLimits l.kinds
  pub order : IsOrder l.kinds l.places

-- how many bits the variable has
abbrev pub width_at : LayoutState → VarId → ℕ
width_at l v = option_map_or width_of (slice_get l.kinds v.0) 0

-- whether the place is this one of this variable
abbrev pub is_at : VarId → ℕ → Place → Bool
is_at v i p = (p.variable.0 == v.0) && (p.position == i)

-- the bit at a position of the variable's words: how many places come before this one
unfoldable pub bit_at : LayoutState → VarId → ℕ → ℕ
bit_at l v i = position_or_len (is_at v i) l.places

-- the bit stands for this position of this variable's words
abbrev pub StandsFor : LayoutState → ℕ → VarId → ℕ → Type 0
StandsFor l bit v i = IsSomeAnd (slice_get l.places bit) (λ p. (p.variable ≡ v) × (p.position ≡ i))

-- the word of a value of the variable
abbrev pub word_at : LayoutState → VarId → Value → List Bool
word_at l v x = option_map_or (λ k. word_of k x) (slice_get l.kinds v.0) []

-- an initial value of the variable that has this word
abbrev pub IsValueAt : LayoutState → VarId → List Bool → Value → Type 0
IsValueAt l v word x = IsSomeAnd (slice_get l.kinds v.0) (λ k. IsValueOf k word x)
