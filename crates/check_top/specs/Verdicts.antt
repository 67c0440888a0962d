-- What a check says of the bytes of a log: they are accepted, or this line is the first that is refused, for this
-- first reason. A line has at most 67,108,864 bytes, its newline not counted, and each line ends in a newline (this
-- project's own).
use Rattle.std.specs.Prelude.{◌≡◌, ◌≢◌, ◌⊎◌, ℕ, ◌+◌, ◌<◌, ◌≤◌, List, [], ◌∷◌, ◌++◌, length, All, None}
use Rattle.std.specs.List.{before_first, AllByRecursion}
use Rattle.set_meaning.specs.declared.problems.Problem.{Problem}
use Rattle.set_meaning.specs.Solutions.{AreAnswers, CoverAll}
use Rattle.desk.specs.Lines.{line_limit, is_newline, IsLine}
use Rattle.log_text.specs.declared.line.Line.{Line}
use Rattle.log_text.specs.Spelling.{spelling, IsLog}
use Rattle.log_rules.specs.declared.reasons.Reason.{Reason}
use Rattle.log_rules.specs.declared.reasons.Reason.TheVariants as reason
use Rattle.log_rules.specs.declared.reasons.End.{End}
use Rattle.log_rules.specs.declared.reasons.End.TheVariants.{Complete}
use Rattle.log_rules.specs.States.{LogState, state_of, listed_answers}
use Rattle.log_rules.specs.Rules.{IsFirstReason, IsRefusedFor}
use Rattle.log_rules.specs.Logs.{AreValid, IsAcceptedLog}

-- no line is longer than a line may be
abbrev pub AreShort : List Line → Type 0
AreShort log = AllByRecursion (λ line. length (spelling line) ≤ line_limit) log

-- the bytes are the log of these lines, none of them too long
pub record IsShortLog (bytes : List ℕ) (log : List Line) : Type 0 where
  pub spelled : IsLog bytes log
  pub short : AreShort log

-- ---- accepted

-- The bytes are a log of valid lines, the last of which ends it so. Each answer that the log lists is a solution
-- which those before it do not cover. Where the last line says that nothing is left, the answers cover every solution
-- of the problem: where none is listed, there is none.
pub record IsAccepted (p : Problem) (bytes : List ℕ) (end : End) (answers : ℕ) : Type 0 where
  pub log : List Line
  pub spelled : IsShortLog bytes log
  pub accepted : IsAcceptedLog p log end
  pub solutions : AreAnswers p (listed_answers log)
  pub covered : end ≡ Complete → CoverAll p (listed_answers log)
  pub count : answers ≡ length (listed_answers log)

-- ---- refused

-- The text ends, and no line ended the log.
pub record EndsEarly (s : LogState) (rest : List ℕ) (r : Reason) : Type 0 where
  pub none : rest ≡ []
  pub going : s.ends ≡ []
  pub reason : r ≡ reason.End

-- The next line is refused for this reason.
pub record HasBadLine (p : Problem) (s : LogState) (rest : List ℕ) (r : Reason) : Type 0 where
  pub line : List ℕ
  pub more : List ℕ
  pub front : rest ≡ line ++ 10 ∷ more
  pub whole : IsLine line
  pub refused : IsRefusedFor p s line r

-- The next bytes are no line, since it would be too long.
pub record HasLongLine (p : Problem) (s : LogState) (rest : List ℕ) (r : Reason) : Type 0 where
  pub long : line_limit < length (before_first is_newline rest)
  pub first : IsFirstReason p s None r

-- There are bytes, and no newline behind them.
pub record HasNoNewline (p : Problem) (s : LogState) (rest : List ℕ) (r : Reason) : Type 0 where
  pub some : 0 < length rest
  pub unended : All (λ b. b ≢ 10) rest
  pub first : IsFirstReason p s None r

-- why the bytes that are left after some lines are refused
abbrev pub IsRefusedNext : Problem → LogState → List ℕ → Reason → Type 0
IsRefusedNext p s rest r = EndsEarly s rest r ⊎ HasBadLine p s rest r ⊎ HasLongLine p s rest r ⊎ HasNoNewline p s rest r

-- Valid lines stand in front, and the line with this number, counted from 1, is refused for this reason.
pub record IsRefusedAt (p : Problem) (bytes : List ℕ) (number : ℕ) (r : Reason) : Type 0 where
  pub log : List Line
  pub front : List ℕ
  pub rest : List ℕ
  pub whole : bytes ≡ front ++ rest
  pub spelled : IsShortLog front log
  pub valid : AreValid p log
  pub place : number ≡ length log + 1
  pub next : IsRefusedNext p (state_of log) rest r
