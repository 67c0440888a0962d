-- Boxes, resolvents and the box step. A box is a family: the sides of its variables.
-- Source: this project's own (generalised nogoods on set domains, after Gange, Stuckey and Lagoon, JAIR 2010).
use Rattle.std.specs.Prelude.{◌≡◌, ◌≢◌, ℕ, ◌==◌, Bool, true, false, cond, ◌&&◌, ◌||◌, ◌⊎◌}
use Rattle.search_rules.specs.Family.{Lies, Leaves, Meets, AllLie, IsWithin, without}

-- the union of the two sides at `v`, and the intersection of the sides elsewhere
abbrev pub resolvent : {X : Type 0} → (ℕ → X → Bool) → (ℕ → X → Bool) → ℕ → ℕ → X → Bool
resolvent b c v = λ u x. cond (u == v) (b u x || c u x) (b u x && c u x)

-- what the step of a box says of a family
pub data BoxStep (X : Type 0) : Type 0 where
  Empty : BoxStep X
  Narrowed : ℕ → (X → Bool) → BoxStep X
  Same : BoxStep X

-- only the set of `v` does not lie in its side, it has a value there, and what is outside the side stays
pub record IsBoxNarrowed {X : Type 0} (b f : ℕ → X → Bool) (v : ℕ) (s : X → Bool) : Type 0 where
  pub others : (u : ℕ) → u ≢ v → Lies (f u) (b u)
  pub outside : Leaves (f v) (b v)
  pub inside : Meets (f v) (b v)
  pub stays : s ≡ without (f v) (b v)

-- the sets of two variables do not lie in their sides
pub record AreTwoOutside {X : Type 0} (b f : ℕ → X → Bool) : Type 0 where
  pub one : ℕ
  pub other : ℕ
  pub apart : one ≢ other
  pub one_outside : Leaves (f one) (b one)
  pub other_outside : Leaves (f other) (b other)

-- the set of some variable does not lie in its side and has no value there
pub record IsOneApart {X : Type 0} (b f : ℕ → X → Bool) : Type 0 where
  pub one : ℕ
  pub outside : Leaves (f one) (b one)
  pub misses : (x : X) → f one x ≡ true → b one x ≡ false

-- the box leaves the family as it is
abbrev pub IsBoxSame : {X : Type 0} → (ℕ → X → Bool) → (ℕ → X → Bool) → Type 0
IsBoxSame b f = AreTwoOutside b f ⊎ IsOneApart b f

abbrev pub IsBoxStep : {X : Type 0} → (ℕ → X → Bool) → (ℕ → X → Bool) → BoxStep X → Type 0
IsBoxStep b f Empty = AllLie f b
IsBoxStep b f (Narrowed v s) = IsBoxNarrowed b f v s
IsBoxStep b f Same = IsBoxSame b f

-- The value `x` of `v` extends to an assignment within the family that is not in the box.
pub record Escapes {X : Type 0} (b f : ℕ → X → Bool) (v : ℕ) (x : X) : Type 0 where
  pub values : ℕ → X
  pub at : values v ≡ x
  pub inside : IsWithin f values
  pub out : (u : ℕ) × (b u (values u) ≡ false)

-- What the step of "not in the box" does to the family: no assignment satisfies it; or it leaves the set `s` of `v` and
-- every other set; or it leaves every set.
abbrev pub IsStepOutside : {X : Type 0} → (ℕ → X → Bool) → (ℕ → X → Bool) → BoxStep X → Type 0
IsStepOutside {X} b f Empty = (a : ℕ → X) → IsWithin f a → IsWithin b a
IsStepOutside {X} b f (Narrowed v s) =
    ((x : X) → (s x ≡ true → Escapes b f v x) × (Escapes b f v x → s x ≡ true))
    × ((u : ℕ) (x : X) → u ≢ v → f u x ≡ true → Escapes b f u x)
IsStepOutside {X} b f Same = (u : ℕ) (x : X) → f u x ≡ true → Escapes b f u x
