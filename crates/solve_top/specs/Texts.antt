-- What a run says of the text of a model, by what is asked of it (this project's own).
use Rattle.std.specs.Prelude.{◌≡◌, ◌⊎◌, ℕ, ◌<◌, ◌≤◌, List, length}
use Rattle.set_meaning.specs.declared.problems.Problem.{Problem}
use Rattle.set_meaning.specs.declared.problems.Goal.TheVariants.{Satisfy}
use Rattle.fzn_model.specs.declared.faults.FileFault.{FileFault}
use Rattle.fzn_model.specs.Files.{IsProblemOf, IsFaultOf}
use Rattle.fzn_model.specs.Printed.{printed_line}
use Rattle.solve_top.specs.declared.words.Task.{Task}
use Rattle.solve_top.specs.declared.words.Task.TheVariants.{Solve, Root}
use Rattle.solve_top.specs.Answers.{IsOutText}
use Rattle.solve_top.specs.Roots.{IsRootText}
use Rattle.solve_top.specs.Lines.{too_long_line, not_built_line}

-- the most bytes of a model's text
abbrev pub text_limit : ℕ
text_limit = 67108864

-- a file that is accepted: it is not too long, it has no fault, and this is its problem
pub record IsAcceptedFile (text : List ℕ) (p : Problem) : Type 0 where
  pub short : length text ≤ text_limit
  pub problem : IsProblemOf text p

abbrev pub IsAccepted : List ℕ → Type 0
IsAccepted text = (p : Problem) × IsAcceptedFile text p

-- ---- what is asked for is done

-- the text has a problem, and the bytes answer it
pub record IsAnsweredBy (text out : List ℕ) : Type 0 where
  pub problem : Problem
  pub read : IsAcceptedFile text problem
  pub answered : IsOutText problem out

-- the text has a problem, and the bytes tell its root family
pub record IsRootToldBy (text out : List ℕ) : Type 0 where
  pub problem : Problem
  pub read : IsAcceptedFile text problem
  pub root : IsRootText problem out

-- the bytes are what is asked for
abbrev pub IsDoneBy : Task → List ℕ → List ℕ → Type 0
IsDoneBy Solve text out = IsAnsweredBy text out
IsDoneBy Root text out = IsRootToldBy text out

-- ---- the text is refused

pub record IsTooLong (text out : List ℕ) : Type 0 where
  pub long : text_limit < length text
  pub line : out ≡ too_long_line

-- the text has a fault, and the bytes are its line
pub record IsFaulty (text out : List ℕ) : Type 0 where
  pub short : length text ≤ text_limit
  pub first : FileFault
  pub fault : IsFaultOf text first
  pub line : out ≡ printed_line text first

-- the text has a problem whose goal is not `satisfy`
pub record IsNotBuilt (text out : List ℕ) : Type 0 where
  pub problem : Problem
  pub read : IsAcceptedFile text problem
  pub goal : problem.goal ≡ Satisfy → ⊥
  pub line : out ≡ not_built_line

-- why a text is refused, and what is printed instead. Of each problem the root family is told
abbrev pub IsRefusedBy : Task → List ℕ → List ℕ → Type 0
IsRefusedBy Solve text out = IsTooLong text out ⊎ IsFaulty text out ⊎ IsNotBuilt text out
IsRefusedBy Root text out = IsTooLong text out ⊎ IsFaulty text out
