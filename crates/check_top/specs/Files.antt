-- What the text of a model is for a check: a problem, or why it is refused, and what is printed then (this project's
-- own).
use Rattle.std.specs.Prelude.{◌≡◌, ◌⊎◌, ℕ, ◌<◌, ◌≤◌, List, length, codes}
use Rattle.set_meaning.specs.declared.problems.Problem.{Problem}
use Rattle.fzn_model.specs.declared.faults.FileFault.{FileFault}
use Rattle.fzn_model.specs.Files.{IsProblemOf, IsFaultOf}
use Rattle.fzn_model.specs.Printed.{printed_line}

-- the most bytes of a model's text
abbrev pub text_limit : ℕ
text_limit = 67108864

abbrev pub too_long_line : List ℕ
too_long_line = codes "% error: text too long\n"

-- a file that is accepted: it is not too long, it has no fault, and this is its problem
pub record IsAcceptedFile (text : List ℕ) (p : Problem) : Type 0 where
  pub short : length text ≤ text_limit
  pub problem : IsProblemOf text p

pub record IsTooLong (text out : List ℕ) : Type 0 where
  pub long : text_limit < length text
  pub line : out ≡ too_long_line

-- the text has a fault, and the bytes are its line
pub record IsFaulty (text out : List ℕ) : Type 0 where
  pub short : length text ≤ text_limit
  pub first : FileFault
  pub fault : IsFaultOf text first
  pub line : out ≡ printed_line text first

-- why a text is no model, and what is printed instead
abbrev pub IsRefusedFile : List ℕ → List ℕ → Type 0
IsRefusedFile text out = IsTooLong text out ⊎ IsFaulty text out
