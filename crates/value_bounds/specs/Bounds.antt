-- Bounds of a set of values: for Booleans and integers the least and the greatest; for sets what is in every one and what is in some one
-- (Hawkins, Lagoon and Stuckey, JAIR 2005).
use Rattle.std.specs.Prelude.{◌≡◌, ◌↔◌, ◌≤ℤ◌, ℤ, Bool, true, List, IsTrue}
use Rattle.set_meaning.specs.declared.kinds.Value.{Value}
use Rattle.set_meaning.specs.declared.kinds.Value.TheVariants as value
use Rattle.set_meaning.specs.declared.problems.Bounds.{Bounds}
use Rattle.set_meaning.specs.declared.problems.Bounds.TheVariants as bounds
use Rattle.set_meaning.specs.Sets.{Has, IsAscending}

-- false is before true
pub record AreTruthBounds (f : Value → Bool) (low high : Bool) : Type 0 where
  pub low_in : f (value.Bool low) ≡ true
  pub high_in : f (value.Bool high) ≡ true
  pub least : (b : Bool) → f (value.Bool b) ≡ true → IsTrue low → IsTrue b
  pub greatest : (b : Bool) → f (value.Bool b) ≡ true → IsTrue b → IsTrue high

pub record AreNumberBounds (f : Value → Bool) (low high : ℤ) : Type 0 where
  pub low_in : f (value.Int low) ≡ true
  pub high_in : f (value.Int high) ≡ true
  pub least : (x : ℤ) → f (value.Int x) ≡ true → low ≤ℤ x
  pub greatest : (x : ℤ) → f (value.Int x) ≡ true → x ≤ℤ high

-- some value is a set; `every` has the elements that are in each of the sets, and `some` those that are in one of them
pub record AreSetBounds (f : Value → Bool) (every some : List ℤ) : Type 0 where
  pub there : (s : List ℤ) × (f (value.Set s) ≡ true)
  pub every_ascends : IsAscending every
  pub some_ascends : IsAscending some
  pub in_every : (x : ℤ) → Has every x ↔ ((s : List ℤ) → f (value.Set s) ≡ true → Has s x)
  pub in_some : (x : ℤ) → Has some x ↔ ((s : List ℤ) × (f (value.Set s) ≡ true) × Has s x)

-- the bounds of the values that pass f
abbrev pub AreBoundsOf : (Value → Bool) → Bounds → Type 0
AreBoundsOf f (bounds.Bool low high) = AreTruthBounds f low high
AreBoundsOf f (bounds.Int low high) = AreNumberBounds f low high
AreBoundsOf f (bounds.Set every some) = AreSetBounds f every some
