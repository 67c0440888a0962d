-- How a checker is kept.
use Rattle.std.specs.Prelude.{◌≡◌, ◌≤◌, List, option_to_list}
use Rattle.set_meaning.specs.declared.problems.Problem.{Problem}
use Rattle.set_meaning.specs.declared.kinds.Kind.{Kind}
use Rattle.set_meaning.specs.Problems.{IsKind}
use Rattle.bit_layout.specs.Limits.{IsNarrow, counted_bits}
use Rattle.problem_limits.specs.Limits.{KeepsLimits}
use Rattle.bit_layout.specs.Order.{LayoutState}
use Rattle.log_text.specs.declared.line.Line.{Line}
use Rattle.log_rules.specs.States.{LogState, state_of}
use Rattle.log_rules.specs.Logs.{AreValid}
use Rattle.log_checker.specs.declared.earlier.Earlier.{Earlier}
use Rattle.log_checker.specs.declared.checker.Checker.TheInside.{Inside}
use Rattle.log_checker.specs.States.{CheckerState}
use Rattle.log_checker.specs.Words.{AreKept}

-- what the lines before have made
abbrev pub log_of : Earlier → LogState
log_of e = record { begun = e.begun; table = e.table; boxes = e.boxes.items; answers = e.answers.items; ends = option_to_list e.end }

abbrev pub state : Inside → CheckerState
state a = record { problem = a.problem; log = log_of a.earlier }

-- some list of valid lines was taken
pub record IsKept (a : Inside) : Type 0 where
  pub limits : KeepsLimits a.problem
  pub layout : a.layout.kinds ≡ a.problem.kinds
  pub lines : List Line
  pub valid : AreValid a.problem lines
  pub made : state_of lines ≡ log_of a.earlier

-- what a check of a line rests on
pub record IsReady (p : Problem) (l : LayoutState) (e : Earlier) : Type 0 where
  pub limits : KeepsLimits p
  pub layout : l.kinds ≡ p.kinds
  pub kept : AreKept p (log_of e)

-- a kind that a layout can hold
pub record IsKindWithin (k : Kind) : Type 0 where
  pub legal : IsKind k
  pub narrow : IsNarrow k
  pub bits : counted_bits k ≤ 1048576
