-- A checker as its callers see it: the problem, and what the rules read of the lines taken. This project's own.
use Rattle.std.specs.Prelude.{◌≡◌, ℕ, List, [], Some, ⊤}
use Rattle.set_meaning.specs.declared.problems.Problem.{Problem}
use Rattle.log_text.specs.declared.line.Line.{Line}
use Rattle.log_rules.specs.States.{LogState, state_of, after}
use Rattle.log_rules.specs.Rules.{IsValidAfter, IsFirstReason, IsRefusedFor, Reads}
use Rattle.log_checker.specs.declared.refused.Refused.{Refused}
use Rattle.log_checker.specs.declared.refused.Refused.TheVariants as refused

pub record CheckerState : Type 0 where
  pub problem : Problem
  pub log : LogState

-- before any line
abbrev pub start : Problem → CheckerState
start p = record { problem = p; log = state_of [] }

-- the text spells a valid line, and the checker has that line behind those before
pub record Takes (c : CheckerState) (text : List ℕ) (d : CheckerState) : Type 0 where
  pub line : Line
  pub reads : Reads text (Some line)
  pub valid : IsValidAfter c.problem c.log line
  pub state : d ≡ record { problem = c.problem; log = after c.log line }

-- a refusal names the first rule that is broken
abbrev pub IsCauseOf : CheckerState → List ℕ → Refused → Type 0
IsCauseOf c text (refused.Reason r) = IsRefusedFor c.problem c.log text r
IsCauseOf c text refused.Memory = ⊤

-- the line, which was read, is refused for the first rule that it breaks
abbrev pub IsRefusal : CheckerState → Line → Refused → Type 0
IsRefusal c line (refused.Reason r) = IsFirstReason c.problem c.log (Some line) r
IsRefusal c line refused.Memory = ⊤
