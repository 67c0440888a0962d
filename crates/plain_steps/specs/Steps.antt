-- What the steps of the plain search say of a family.
-- Source: this project's own.
use Rattle.std.specs.Prelude.{◌≡◌, ℕ, ◌<◌, Bool, cond, List, [], length, slice_index_or}
use Rattle.search_rules.specs.Family.{AllLie}
use Rattle.search_rules.specs.Problem.{IsNarrowed, IsLeft, IsViolated}
use Rattle.search_rules.specs.Box.{IsBoxNarrowed, IsBoxSame}
use Rattle.search_rules.specs.Trail.{IsPart}
use Rattle.plain_steps.specs.Sets.{has, family}
use Rattle.plain_steps.specs.Task.{Plain, problem_of, IsSatisfiable}
use Rattle.plain_steps.specs.declared.step.Step.{Step}
use Rattle.plain_steps.specs.declared.step.Step.TheVariants.{Conflict, Narrowed, Same}

abbrev pub IsStepOf : Plain → ℕ → List (List ℕ) → Step → Type 0
IsStepOf p c f Conflict = IsViolated (problem_of p) c (family f)
IsStepOf p c f (Narrowed v s) =
    (v < length f) × IsPart (has s) (family f v) × IsNarrowed (problem_of p) c (family f) v (has s)
IsStepOf p c f Same = IsLeft (problem_of p) c (family f) × IsSatisfiable p c f

abbrev pub IsBoxStepOf : List (List ℕ) → List (List ℕ) → Step → Type 0
IsBoxStepOf b f Conflict = AllLie (family f) (family b)
IsBoxStepOf b f (Narrowed v s) =
    (v < length f) × IsPart (has s) (family f v) × IsBoxNarrowed (family b) (family f) v (has s)
IsBoxStepOf b f Same = IsBoxSame (family b) (family f)

-- the sets of the constraint's variables, and the initial sets of the others
abbrev pub conflict_sides : Plain → ℕ → List (List ℕ) → ℕ → List ℕ
conflict_sides p c f v = cond (p.scope c v) (slice_index_or f v []) (slice_index_or p.sets v [])

-- the list has a side for each of `n` variables, and they are those of the box
pub record IsBox (sides : List (List ℕ)) (n : ℕ) (b : ℕ → ℕ → Bool) : Type 0 where
  pub long : length sides ≡ n
  pub same : family sides ≡ b
