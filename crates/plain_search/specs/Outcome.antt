-- The answer of the search, and what its learned boxes are.
-- Source: this project's own.
use Rattle.std.specs.Prelude.{◌≡◌, ℕ, ◌<◌, Bool, false, List, [], length, slice_index, slice_index_or, ◌⊎◌}
use Rattle.search_rules.specs.Family.{IsWithin}
use Rattle.search_rules.specs.Problem.{IsSingle}
use Rattle.search_rules.specs.Trail.{Entry, IsStored}
use Rattle.search_rules.specs.State.{IsSafe, IsLegal}
use Rattle.plain_steps.specs.Sets.{has, family}
use Rattle.plain_steps.specs.Task.{Plain, masked, problem_of}
use Rattle.plain_search.specs.State.{boxes_of}
use Rattle.plain_search.specs.Moves.{AreSolution, IsDone}
use Rattle.plain_search.specs.declared.solving.Answer.{Answer}
use Rattle.plain_search.specs.declared.solving.Answer.TheVariants.{Solution, NoSolution}

-- each assignment of initial values violates a constraint
abbrev pub IsRefuted : Plain → Type 0
IsRefuted p = (a : ℕ → ℕ) → IsWithin (family p.sets) a → (c : ℕ) × (c < p.count) × (p.holds c (masked p c a) ≡ false)

-- the answer is right
abbrev pub IsAnswer : Plain → Answer → Type 0
IsAnswer p (Solution values) = AreSolution p values.items
IsAnswer p NoSolution = IsRefuted p

-- the values are the single ones at the end of a legal trail over these boxes
pub record IsReached (p : Plain) (boxes : List (List (List ℕ))) (values : List ℕ) : Type 0 where
  pub entries : List (Entry ℕ)
  pub sets : ℕ → ℕ → Bool
  pub legal : IsLegal (problem_of p) [] (boxes_of boxes) entries sets
  pub single : IsSingle (problem_of p) sets (λ v. slice_index values v)

-- some variable has no initial value
abbrev pub HasEmptySet : Plain → Type 0
HasEmptySet p = (v : ℕ) × (v < length p.sets) × ((x : ℕ) → has (slice_index_or p.sets v []) x ≡ false)

-- how the search with these learned boxes came to its answer
abbrev pub IsEnd : Plain → List (List (List ℕ)) → Answer → Type 0
IsEnd p boxes (Solution values) = IsReached p boxes values.items
IsEnd p boxes NoSolution = IsDone p boxes ⊎ HasEmptySet p

-- no solution is in a box
abbrev pub AreSafe : Plain → List (List (List ℕ)) → Type 0
AreSafe p boxes = (b : ℕ → ℕ → Bool) → IsStored (boxes_of boxes) b → IsSafe (problem_of p) [] b
