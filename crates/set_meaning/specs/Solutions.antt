-- Solutions, and which answers leave a solution uncovered. This project's own.
use Rattle.std.specs.Prelude.{◌≡◌, ◌≤ℤ◌, List, ◌∷◌, ◌++◌, All, Any}
use Rattle.set_meaning.specs.declared.kinds.Value.{Value}
use Rattle.set_meaning.specs.declared.problems.Goal.{Goal}
use Rattle.set_meaning.specs.declared.problems.Goal.TheVariants.{Satisfy, Minimize, Maximize}
use Rattle.set_meaning.specs.declared.problems.Problem.{Problem}
use Rattle.set_meaning.specs.Kinds.{IsAssignment}
use Rattle.set_meaning.specs.Arguments.{OfTwo, int_at}
use Rattle.set_meaning.specs.Relations.{Holds}

-- an assignment under which every constraint holds
pub record IsSolution (p : Problem) (values : List Value) : Type 0 where
  pub assignment : IsAssignment p.kinds values
  pub constraints : All (λ c. Holds c values) p.constraints

abbrev pub HasNoSolution : Problem → Type 0
HasNoSolution p = (values : List Value) → IsSolution p values → ⊥

-- with this answer known, the solution adds nothing to the goal. Where nothing is optimised, a part of the values tells
-- answers apart.
abbrev pub CoversBy : (List Value → List Value) → Goal → List Value → List Value → Type 0
CoversBy part Satisfy answer solution = part answer ≡ part solution
CoversBy part (Minimize v) answer solution = OfTwo (λ a s. a ≤ℤ s) (int_at v answer) (int_at v solution)
CoversBy part (Maximize v) answer solution = OfTwo (λ a s. s ≤ℤ a) (int_at v answer) (int_at v solution)

-- what tells two answers apart: all their values
abbrev pub told_apart_by : Problem → List Value → List Value
told_apart_by p values = values

abbrev pub Covers : Problem → List Value → List Value → Type 0
Covers p answer solution = CoversBy (told_apart_by p) p.goal answer solution

-- some listed answer covers the solution
abbrev pub IsCovered : Problem → List (List Value) → List Value → Type 0
IsCovered p answers solution = Any (λ answer. Covers p answer solution) answers

-- a solution that the answers before it do not cover
pub record IsAnswer (p : Problem) (before : List (List Value)) (values : List Value) : Type 0 where
  pub solution : IsSolution p values
  pub new : IsCovered p before values → ⊥

-- each listed one is an answer after those before it
unfoldable pub AreAnswers : Problem → List (List Value) → Type 0
AreAnswers p answers =
    (before after : List (List Value)) (values : List Value) → answers ≡ before ++ values ∷ after → IsAnswer p before values

-- the answers cover every solution
unfoldable pub CoverAll : Problem → List (List Value) → Type 0
CoverAll p answers = (solution : List Value) → IsSolution p solution → IsCovered p answers solution
