-- Boxes of answers, and boxes that speak of the problem's variables alone.
-- Source: this project's own.
use Rattle.std.specs.Prelude.{ℕ, ◌≤◌, Bool, List, All}
use Rattle.search_rules.specs.Family.{IsWithin, Lies}
use Rattle.search_rules.specs.Problem.{Problem, IsSolution}
use Rattle.search_rules.specs.Trail.{Stored, IsStored}

-- a stored box holds each solution that the answer covers
pub record HasBox {X : Type 0} (p : Problem X) (boxes : List (Stored X)) (answer : ℕ → X) : Type 0 where
  pub sides : ℕ → X → Bool
  pub stored : IsStored boxes sides
  pub holds : (a : ℕ → X) → IsSolution p a → p.covers answer a → IsWithin sides a

-- each answer has its box stored
abbrev pub HaveBoxes : {X : Type 0} → Problem X → List (Stored X) → List (ℕ → X) → Type 0
HaveBoxes p boxes answers = All (HasBox p boxes) answers

-- beyond the last variable the box holds each value that the initial family has there
abbrev pub SpeaksOfVariables : {X : Type 0} → Problem X → (ℕ → X → Bool) → Type 0
SpeaksOfVariables p b = (v : ℕ) → p.variables ≤ v → Lies (p.initial v) (b v)
