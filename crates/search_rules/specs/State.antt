-- The legal state of the search: its trail, its stored boxes, newest first, and the answers given.
-- Source: this project's own.
use Rattle.std.specs.Prelude.{◌≡◌, ℕ, ◌<◌, Bool, true, List, [], ◌∷◌, ◌⊎◌}
use Rattle.search_rules.specs.Family.{IsWithin}
use Rattle.search_rules.specs.Problem.{Problem, IsSolution, IsCovered}
use Rattle.search_rules.specs.Trail.{Entry, Stored, IsStored, IsTrail}
use Rattle.search_rules.specs.Walk.{IsWalked}

-- the box holds no solution that the answers do not cover
abbrev pub IsSafe : {X : Type 0} → Problem X → List (ℕ → X) → (ℕ → X → Bool) → Type 0
IsSafe {X} p answers b = (a : ℕ → X) → IsSolution p a → IsWithin b a → IsCovered p answers a

-- each learned box is walked over the boxes stored before it
abbrev pub AreWalked : {X : Type 0} → Problem X → List (Stored X) → Type 0
AreWalked p [] = Unit {0}
AreWalked p (s ∷ ss) = (s.learned ≡ true → IsWalked p ss s.sides) × AreWalked p ss

pub record IsLegal {X : Type 0} (p : Problem X) (answers : List (ℕ → X)) (boxes : List (Stored X)) (es : List (Entry X))
    (f : ℕ → X → Bool) : Type 0 where
  pub trail : IsTrail p boxes es f
  pub safe : (b : ℕ → X → Bool) → IsStored boxes b → IsSafe p answers b
  pub walked : AreWalked p boxes

-- the assignment is in a stored box or violates a constraint
abbrev pub IsExcluded : {X : Type 0} → Problem X → List (Stored X) → (ℕ → X) → Type 0
IsExcluded {X} p boxes a =
    ((b : ℕ → X → Bool) × IsStored boxes b × IsWithin b a) ⊎ ((c : ℕ) × (c < p.constraints) × (p.holds c a → ⊥))
