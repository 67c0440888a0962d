-- A problem as the search sees it, the exact step of a constraint, and the root family.
-- Source: domain consistency as in Hawkins, Lagoon and Stuckey, JAIR 2005; the root family is this project's own.
use Rattle.std.specs.Prelude.{◌≡◌, ℕ, ◌<◌, Bool, true, false, List, [], ◌∷◌, ◌⊎◌}
use Rattle.search_rules.specs.Family.{AllLie, IsWithin}

abbrev pub IsAmong : {X : Type 0} → X → List X → Type 0
IsAmong x [] = ⊥
IsAmong x (y ∷ ys) = (x ≡ y) ⊎ IsAmong x ys

-- Variables and constraints are numbered from 0.
pub record Problem (X : Type 0) : Type 1 where
  pub variables : ℕ
  -- the initial set of each variable, and a list that has each of its values
  pub initial : ℕ → X → Bool
  pub values : ℕ → List X
  pub listed : (v : ℕ) (x : X) → v < variables → initial v x ≡ true → IsAmong x (values v)
  -- the constraints: which variables each speaks of, and when an assignment satisfies it
  pub constraints : ℕ
  pub scope : ℕ → ℕ → Bool
  pub scoped : (c v : ℕ) → scope c v ≡ true → v < variables
  pub holds : ℕ → (ℕ → X) → Type 0
  pub reads : (c : ℕ) (a b : ℕ → X) → ((v : ℕ) → scope c v ≡ true → a v ≡ b v) → holds c a → holds c b
  -- the branching rule: in this family it picks this variable and keeps this part of its set
  pub decides : (ℕ → X → Bool) → ℕ → (X → Bool) → Type 0
  -- an answer covers a solution: it is that solution, or has an objective as good
  pub covers : (ℕ → X) → (ℕ → X) → Type 0

pub record IsSolution {X : Type 0} (p : Problem X) (a : ℕ → X) : Type 0 where
  pub initial : IsWithin p.initial a
  pub holds : (c : ℕ) → c < p.constraints → p.holds c a

-- some answer covers the assignment
abbrev pub IsCovered : {X : Type 0} → Problem X → List (ℕ → X) → (ℕ → X) → Type 0
IsCovered p [] a = ⊥
IsCovered p (y ∷ ys) a = p.covers y a ⊎ IsCovered p ys a

-- The value `x` of `v` extends: some values of the scope's variables, each in the family, have `x` at `v` and satisfy
-- the constraint.
pub record Extends {X : Type 0} (p : Problem X) (c : ℕ) (f : ℕ → X → Bool) (v : ℕ) (x : X) : Type 0 where
  pub values : ℕ → X
  pub scoped : p.scope c v ≡ true
  pub at : values v ≡ x
  pub inside : (u : ℕ) → p.scope c u ≡ true → f u (values u) ≡ true
  pub holds : p.holds c values

-- The exact step keeps in each scope variable exactly the values that extend, and leaves the other variables alone.
pub record IsExactStep {X : Type 0} (p : Problem X) (c : ℕ) (f g : ℕ → X → Bool) : Type 0 where
  pub sound : (v : ℕ) (x : X) → p.scope c v ≡ true → g v x ≡ true → Extends p c f v x
  pub whole : (v : ℕ) (x : X) → Extends p c f v x → g v x ≡ true
  pub others : (v : ℕ) → p.scope c v ≡ false → g v ≡ f v

-- the exact step at one variable: `s` has exactly the values of `v` that extend
pub record IsNarrowed {X : Type 0} (p : Problem X) (c : ℕ) (f : ℕ → X → Bool) (v : ℕ) (s : X → Bool) : Type 0 where
  pub scoped : p.scope c v ≡ true
  pub sound : (x : X) → s x ≡ true → Extends p c f v x
  pub whole : (x : X) → Extends p c f v x → s x ≡ true

-- the exact step leaves the family as it is: each value of each scope variable extends
abbrev pub IsLeft : {X : Type 0} → Problem X → ℕ → (ℕ → X → Bool) → Type 0
IsLeft {X} p c f = (v : ℕ) (x : X) → p.scope c v ≡ true → f v x ≡ true → Extends p c f v x

-- each variable's set has just the value that the assignment gives
pub record IsSingle {X : Type 0} (p : Problem X) (f : ℕ → X → Bool) (a : ℕ → X) : Type 0 where
  pub within : IsWithin f a
  pub only : (v : ℕ) (x : X) → v < p.variables → f v x ≡ true → x ≡ a v

-- no values of the scope's variables, each in the family, satisfy the constraint
abbrev pub IsViolated : {X : Type 0} → Problem X → ℕ → (ℕ → X → Bool) → Type 0
IsViolated {X} p c f = (a : ℕ → X) → ((u : ℕ) → p.scope c u ≡ true → f u (a u) ≡ true) → p.holds c a → ⊥

-- `x` is in the root family at `v`: some family within the initial one has it there and is left as it is by every step
pub record InRootFamily {X : Type 0} (p : Problem X) (v : ℕ) (x : X) : Type 0 where
  pub family : ℕ → X → Bool
  pub initial : AllLie family p.initial
  pub has : family v x ≡ true
  pub left : (c : ℕ) → c < p.constraints → IsLeft p c family

-- some variable has no value in the root family, or a constraint without variables is false
abbrev pub IsRootRefuted : {X : Type 0} → Problem X → Type 0
IsRootRefuted {X} p =
    ((v : ℕ) × (v < p.variables) × ((x : X) → InRootFamily p v x → ⊥))
    ⊎ ((c : ℕ) × (c < p.constraints) × ((v : ℕ) → p.scope c v ≡ false) × ((a : ℕ → X) → p.holds c a → ⊥))

-- A part of a step takes away only values that do not extend: the whole exact step, the step at one variable, or less.
pub record IsPartOfStep {X : Type 0} (p : Problem X) (c : ℕ) (f g : ℕ → X → Bool) : Type 0 where
  pub smaller : AllLie g f
  pub keeps : (v : ℕ) (x : X) → f v x ≡ true → (p.scope c v ≡ true → Extends p c f v x) → g v x ≡ true

-- steps of these constraints, or parts of them, one after another, lead from `f` to `g`
pub data Steps {X : Type 0} (p : Problem X) (f : ℕ → X → Bool) : List ℕ → (ℕ → X → Bool) → Type 0 where
  start : Steps p f [] f
  next : {c : ℕ} {cs : List ℕ} {g h : ℕ → X → Bool} → Steps p f cs g → c < p.constraints → IsPartOfStep p c g h
      → Steps p f (c ∷ cs) h
