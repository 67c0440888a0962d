-- Lines as they are written: their bytes, what a call leaves in the log, and which logs a writer may go on with. This project's own.
use Rattle.std.specs.Prelude.{◌≡◌, ℕ, ◌+◌, ◌<◌, Bool, true, false, List, [], ◌∷◌, ◌++◌, map, length, codes, Result, Ok, Err}
use Rattle.std.specs.List.{flat_map}
use Rattle.set_meaning.specs.declared.kinds.Value.{Value}
use Rattle.set_meaning.specs.declared.kinds.Value.TheVariants as value
use Rattle.set_meaning.specs.declared.problems.ConId.{ConId}
use Rattle.set_meaning.specs.declared.problems.VarId.{VarId}
use Rattle.desk.specs.State.{State, written}
use Rattle.desk.specs.Texts.{WritesFront}
use Rattle.desk.specs.declared.outside.To.TheVariants as to
use Rattle.log_text.specs.declared.line.Line.{Line}
use Rattle.log_text.specs.declared.line.Line.TheVariants as lines
use Rattle.log_text.specs.declared.line.LogValue.{LogValue}
use Rattle.log_text.specs.declared.line.LogValue.TheVariants as logged
use Rattle.log_text.specs.Spelling.{spelling}
use Rattle.log_rules.specs.declared.nodes.Node.{Node}
use Rattle.log_rules.specs.Tables.{next_node}
use Rattle.log_rules.specs.Boxes.{Sides}
use Rattle.log_rules.specs.States.{table_of, boxes_of, ends_of}
use Rattle.refute_log.specs.declared.writer.LogStop.{LogStop}
use Rattle.refute_log.specs.declared.writer.LogStop.TheVariants as stops
use Rattle.refute_log.specs.Writer.{WriterState}

-- ---- bytes

-- the bytes of a line: its spelling, and a newline
abbrev pub line_text : Line → List ℕ
line_text line = spelling line ++ codes "\n"

-- the bytes of lines
abbrev pub text_of : List Line → List ℕ
text_of log = flat_map line_text log

-- ---- what a call leaves

-- the write failed, and memory was not refused
abbrev pub has_failed : {T : Type 0} → Result T LogStop → Bool
has_failed (Ok x) = false
has_failed (Err stops.Failed) = true
has_failed (Err stops.Memory) = false

-- Ok: these bytes were appended to the log. Want of memory: none were. A failure: a front of them that is not all.
abbrev pub Appends : {T : Type 0} → List ℕ → State → State → Result T LogStop → Type 0
Appends bytes old new (Ok x) = new ≡ written to.Log bytes old
Appends bytes old new (Err stops.Failed) = WritesFront to.Log bytes old new
Appends bytes old new (Err stops.Memory) = new ≡ old

-- ---- lines by what is told to the writer

-- sides under the numbers of their variables
abbrev pub numbered : List (VarId × ℕ) → Sides
numbered sides = map (λ (side : VarId × ℕ). (side.0.0, side.1)) sides

abbrev pub log_value : Value → LogValue
log_value (value.Bool b) = logged.Bool b
log_value (value.Int x) = logged.Int x
log_value (value.Set set) = logged.Set set

abbrev pub axiom_line : ℕ → ConId → List (VarId × ℕ) → Line
axiom_line number constraint sides = lines.Axiom number constraint.0 (numbered sides)

abbrev pub answer_line : ℕ → List Value → List (VarId × ℕ) → Line
answer_line number values sides = lines.Answer number (map log_value values) (numbered sides)

abbrev pub resolvent_line : ℕ → ℕ → ℕ → VarId → List (VarId × ℕ) → Line
resolvent_line number left right pivot sides = lines.Resolvent number left right pivot.0 (numbered sides)

abbrev pub node_line : ℕ → Node → Line
node_line number node = lines.Node number node.place node.lo node.hi

-- the lines of nodes, with numbers from this one on
abbrev pub node_lines : ℕ → List Node → List Line
node_lines number [] = []
node_lines number (node ∷ nodes) = node_line number node ∷ node_lines (number + 1) nodes

-- ---- logs with which a writer goes on

-- the log is begun and not ended, and the next numbers after it are the writer's
pub record Follows (w : WriterState) (log : List Line) : Type 0 where
  pub begun : 0 < length log
  pub unended : ends_of log ≡ []
  pub node : w.next_node ≡ next_node (table_of log)
  pub box : w.next_box ≡ length (boxes_of log)
