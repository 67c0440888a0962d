-- What each step of a check leaves (this project's own).
use Rattle.std.specs.Prelude.{◌≡◌, ℕ, ◌+◌, ◌<◌, List, [], ◌∷◌, ◌++◌, length, take, IfSome, Option, Some, None, Result, Ok, Err}
use Rattle.set_meaning.specs.declared.problems.Problem.{Problem}
use Rattle.set_meaning.specs.Solutions.{CoverAll}
use Rattle.problem_limits.specs.Limits.{KeepsLimits}
use Rattle.desk.specs.declared.outside.Asked.TheVariants as asked
use Rattle.desk.specs.declared.outside.Slot.TheVariants as slot
use Rattle.desk.specs.State.{State, taken}
use Rattle.desk.specs.Causes.{Faults, Rose}
use Rattle.desk.specs.Lines.{GivesLine}
use Rattle.log_rules.specs.declared.reasons.Reason.TheVariants as reason
use Rattle.log_rules.specs.Rules.{IsFirstReason, IsRefusedFor}
use Rattle.log_rules.specs.declared.reasons.End.{End}
use Rattle.log_rules.specs.declared.reasons.End.TheVariants.{Complete}
use Rattle.log_checker.specs.States.{CheckerState, Takes}
use Rattle.check_top.specs.declared.running.CheckStatus.{CheckStatus}
use Rattle.check_top.specs.declared.running.CheckStatus.TheVariants as status
use Rattle.check_top.specs.declared.verdict.Verdict.{Verdict}
use Rattle.check_top.specs.declared.verdict.Verdict.TheVariants as verdict
use Rattle.check_top.specs.declared.ending.Ending.{Ending}
use Rattle.check_top.specs.Files.{IsAcceptedFile, IsRefusedFile}
use Rattle.check_top.specs.Printed.{read_fault_line, memory_line, accepted_line, refused_line}
use Rattle.check_top.specs.Verdicts.{IsRefusedNext}
use Rattle.check_top.specs.Endings.{IsAcceptedBy, IsRefusedBy, ending_status, ending_text}
use Rattle.check_top.specs.Run.{OfFile, Causes, Decides}

-- Nothing was written, no log was begun, and the files are the same.
pub record IsQuiet (old new : State) : Type 0 where
  pub out : new.out ≡ old.out
  pub files : new.files ≡ old.files
  pub log : new.log ≡ old.log

-- ---- the model

-- a text's problem with its limits, or why it is refused
abbrev pub RefusesText : List ℕ → CheckStatus → List ℕ → Type 0
RefusesText text status.File out = IsRefusedFile text out
RefusesText text status.Memory out = out ≡ memory_line
RefusesText text s out = ⊥

pub record HasProblem (text : List ℕ) (p : Problem) : Type 0 where
  pub read : IsAcceptedFile text p
  pub limits : KeepsLimits p

abbrev pub EndsText : List ℕ → Result Problem Ending → Type 0
EndsText text (Ok p) = HasProblem text p
EndsText text (Err end) = RefusesText text (ending_status end) (ending_text end)

-- The model's file was read, and this is its problem.
pub record HasModel (name : List ℕ) (old new : State) (f g : Faults) (p : Problem) : Type 0 where
  pub asked : new.asked ≡ old.asked ++ (asked.Read slot.Model, name) ∷ []
  pub quiet : IsQuiet old new
  pub read : OfFile name old (λ text. IsAcceptedFile text p)
  pub limits : KeepsLimits p
  pub faults : g ≡ f

-- what was read is the model's problem, or the check is to end, whatever the log is
abbrev pub ReadsModel : List ℕ → State → State → Faults → Faults → Result Problem Ending → Type 0
ReadsModel name old new f g (Ok p) = HasModel name old new f g p
ReadsModel name old new f g (Err end) = (log : List ℕ) → Decides (Some (name, log)) old new f g (ending_status end) (ending_text end)

-- ---- the log

-- what holds of the log's file where a check of it is to print these bytes and end with this status
abbrev pub EndsLog : Problem → List ℕ → State → ℕ → ℕ → CheckStatus → List ℕ → Type 0
EndsLog p name old before now status.Accepted out = (now ≡ before) × OfFile name old (λ bytes. IsAcceptedBy p bytes out)
EndsLog p name old before now status.Refused out = (now ≡ before) × OfFile name old (λ bytes. IsRefusedBy p bytes out)
EndsLog p name old before now status.ReadFault out = Rose before now × (out ≡ read_fault_line)
EndsLog p name old before now status.Memory out = (now ≡ before) × (out ≡ memory_line)
EndsLog p name old before now s out = ⊥

-- The log's file was read, or not, and the check is to end so.
pub record ChecksLog (p : Problem) (name : List ℕ) (old new : State) (f g : Faults) (s : CheckStatus) (out : List ℕ) : Type 0 where
  pub asked : (k : ℕ) × (new.asked ≡ old.asked ++ take k ((asked.Read slot.Log, name) ∷ []))
  pub quiet : IsQuiet old new
  pub ends : EndsLog p name old f.reads g.reads s out
  pub causes : Causes s f g

-- what is printed for a verdict, and with which status, unless memory was refused for the line
abbrev pub Tells : Verdict → CheckStatus → List ℕ → Type 0
Tells (verdict.Accepted end answers) status.Accepted out = out ≡ accepted_line end answers
Tells (verdict.Refused number r) status.Refused out = out ≡ refused_line number r
Tells verdict.ReadFault status.ReadFault out = out ≡ read_fault_line
Tells verdict.ReadFault s out = ⊥
Tells v status.Memory out = out ≡ memory_line
Tells v s out = ⊥

-- ---- one line

-- The next line was taken.
pub record TakesLine (c d : CheckerState) (old new : Option (List ℕ)) : Type 0 where
  pub text : List ℕ
  pub given : GivesLine old new text
  pub takes : Takes c text d

-- The text ends behind the line that ended the log.
pub record EndsHere (c : CheckerState) (end : End) (answers : ℕ) : Type 0 where
  pub ends : c.log.ends ≡ end ∷ []
  pub covered : end ≡ Complete → CoverAll c.problem c.log.answers
  pub count : answers ≡ length c.log.answers

-- what a verdict says of what is left after the lines that a checker took. The next line has this number
abbrev pub Judges : CheckerState → Option (List ℕ) → ℕ → Verdict → Type 0
Judges c rest number (verdict.Accepted end answers) = IfSome rest (λ xs. xs ≡ []) × EndsHere c end answers
Judges c rest number (verdict.Refused at r) = (at ≡ number) × IfSome rest (λ xs. IsRefusedNext c.problem c.log xs r)
Judges c rest number verdict.ReadFault = Unit {0}
Judges c rest number verdict.Memory = Unit {0}

-- the same of a line that was read whole
abbrev pub RefusesLine : CheckerState → List ℕ → ℕ → Verdict → Type 0
RefusesLine c text number (verdict.Refused at r) = (at ≡ number) × IsRefusedFor c.problem c.log text r
RefusesLine c text number verdict.Memory = Unit {0}
RefusesLine c text number v = ⊥

-- the same of bytes that are no line
abbrev pub RefusesBytes : CheckerState → ℕ → Verdict → Type 0
RefusesBytes c number (verdict.Refused at r) = (at ≡ number) × IsFirstReason c.problem c.log None r
RefusesBytes c number v = ⊥

-- the same where nothing is left
abbrev pub JudgesEnd : CheckerState → ℕ → Verdict → Type 0
JudgesEnd c number (verdict.Accepted end answers) = EndsHere c end answers
JudgesEnd c number (verdict.Refused at r) = (at ≡ number) × (r ≡ reason.End) × (c.log.ends ≡ [])
JudgesEnd c number v = ⊥

-- ---- the slot of the log

-- some bytes were taken out of it, and nothing else was changed
abbrev pub TakesSome : State → State → Type 0
TakesSome old new = (n : ℕ) × (new ≡ taken slot.Log n old)

-- the same where fewer bytes are unread now than before, for those that were taken
pub record PassesLine (old new : State) (before after : ℕ) : Type 0 where
  pub count : ℕ
  pub state : new ≡ taken slot.Log count old
  pub fewer : after < before + count
