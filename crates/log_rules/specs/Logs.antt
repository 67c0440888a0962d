-- Accepted logs. This project's own.
use Rattle.std.specs.Prelude.{◌≡◌, ℕ, List, [], ◌∷◌, ◌++◌, Some}
use Rattle.set_meaning.specs.declared.problems.Problem.{Problem}
use Rattle.log_text.specs.declared.line.Line.{Line}
use Rattle.log_text.specs.Spelling.{IsLog}
use Rattle.log_rules.specs.declared.reasons.End.{End}
use Rattle.log_rules.specs.States.{state_of, end_in}
use Rattle.log_rules.specs.Rules.{IsValidAfter}

-- the line is valid after these lines
abbrev pub IsValidLine : Problem → List Line → Line → Type 0
IsValidLine p earlier line = IsValidAfter p (state_of earlier) line

-- each line is valid after those before it
unfoldable pub AreValid : Problem → List Line → Type 0
AreValid p log = (before after : List Line) (line : Line) → log ≡ before ++ line ∷ after → IsValidLine p before line

-- the last line ends the log so
pub record EndsAs (log : List Line) (end : End) : Type 0 where
  pub before : List Line
  pub last : Line
  pub whole : log ≡ before ++ last ∷ []
  pub ending : end_in last ≡ Some end

-- each line is valid, and the last is one that closes the log or stops it
pub record IsAcceptedLog (p : Problem) (log : List Line) (end : End) : Type 0 where
  pub valid : AreValid p log
  pub ends : EndsAs log end

-- the text is the log of lines that are accepted
pub record IsAcceptedText (p : Problem) (text : List ℕ) (log : List Line) (end : End) : Type 0 where
  pub spelled : IsLog text log
  pub accepted : IsAcceptedLog p log end
