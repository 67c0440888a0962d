-- How a check may end: its status, and what it prints (this project's own).
use Rattle.std.specs.Prelude.{◌≡◌, ℕ, List, IfSome, Option}
use Rattle.set_meaning.specs.declared.problems.Problem.{Problem}
use Rattle.log_rules.specs.declared.reasons.Reason.{Reason}
use Rattle.log_rules.specs.declared.reasons.End.{End}
use Rattle.check_top.specs.declared.running.CheckStatus.{CheckStatus}
use Rattle.check_top.specs.declared.running.CheckStatus.TheVariants as status
use Rattle.check_top.specs.declared.verdict.Verdict.{Verdict}
use Rattle.check_top.specs.declared.verdict.Verdict.TheVariants as verdict
use Rattle.check_top.specs.declared.ending.Ending.{Ending}
use Rattle.check_top.specs.declared.ending.Ending.TheVariants as ending
use Rattle.check_top.specs.Files.{too_long_line}
use Rattle.check_top.specs.Verdicts.{IsAccepted, IsRefusedAt}
use Rattle.check_top.specs.Printed.{usage_line, read_fault_line, memory_line, accepted_line, refused_line}

-- the number that the program ends with
abbrev pub status_number : CheckStatus → ℕ
status_number status.Accepted = 0
status_number status.Refused = 1
status_number status.Words = 2
status_number status.File = 3
status_number status.ReadFault = 4
status_number status.WriteFault = 5
status_number status.Memory = 6

abbrev pub ending_status : Ending → CheckStatus
ending_status (ending.Accepted line) = status.Accepted
ending_status (ending.Refused line) = status.Refused
ending_status ending.TooLong = status.File
ending_status (ending.Faulty line) = status.File
ending_status ending.Words = status.Words
ending_status ending.ReadFault = status.ReadFault
ending_status ending.Memory = status.Memory

-- what is printed
abbrev pub ending_text : Ending → List ℕ
ending_text (ending.Accepted line) = line.items
ending_text (ending.Refused line) = line.items
ending_text ending.TooLong = too_long_line
ending_text (ending.Faulty line) = line.items
ending_text ending.Words = usage_line
ending_text ending.ReadFault = read_fault_line
ending_text ending.Memory = memory_line

-- ---- what is printed of a log

-- the bytes are an accepted log, and this is printed
pub record IsAcceptedBy (p : Problem) (bytes out : List ℕ) : Type 0 where
  pub end : End
  pub answers : ℕ
  pub accepted : IsAccepted p bytes end answers
  pub line : out ≡ accepted_line end answers

-- a line of the bytes is refused, and this is printed
pub record IsRefusedBy (p : Problem) (bytes out : List ℕ) : Type 0 where
  pub number : ℕ
  pub reason : Reason
  pub refused : IsRefusedAt p bytes number reason
  pub line : out ≡ refused_line number reason

-- what a verdict says of the bytes, where they are told
abbrev pub Says : Problem → Option (List ℕ) → Verdict → Type 0
Says p bytes (verdict.Accepted end answers) = IfSome bytes (λ xs. IsAccepted p xs end answers)
Says p bytes (verdict.Refused number r) = IfSome bytes (λ xs. IsRefusedAt p xs number r)
Says p bytes verdict.ReadFault = Unit {0}
Says p bytes verdict.Memory = Unit {0}

-- the status of a check with this verdict
abbrev pub verdict_status : Verdict → CheckStatus
verdict_status (verdict.Accepted end answers) = status.Accepted
verdict_status (verdict.Refused number r) = status.Refused
verdict_status verdict.ReadFault = status.ReadFault
verdict_status verdict.Memory = status.Memory
