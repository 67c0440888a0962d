-- What the lines of a log have made so far: a reading of the lines in whole lists. This project's own.
use Rattle.std.specs.Prelude.{ℕ, nat_lt, Bool, true, List, [], ◌∷◌, ◌++◌, map, length, Option, None, Some, slice_get, filter_map}
use Rattle.set_meaning.specs.declared.kinds.Value.{Value}
use Rattle.set_meaning.specs.declared.kinds.Value.TheVariants as value
use Rattle.log_text.specs.declared.line.LogValue.{LogValue}
use Rattle.log_text.specs.declared.line.LogValue.TheVariants as written
use Rattle.log_text.specs.declared.line.Line.{Line}
use Rattle.log_text.specs.declared.line.Line.TheVariants as lines
use Rattle.log_rules.specs.declared.nodes.Node.{Node}
use Rattle.log_rules.specs.declared.reasons.End.{End}
use Rattle.log_rules.specs.declared.reasons.End.TheVariants.{Complete, Open}
use Rattle.log_rules.specs.Boxes.{Sides}

-- ---- what one line makes

abbrev pub node_in : Line → Option Node
node_in (lines.Node number place lo hi) = Some (record { place = place; lo = lo; hi = hi })
node_in line = None

-- the box that the line makes
abbrev pub box_in : Line → Option Sides
box_in (lines.Axiom number constraint sides) = Some sides
box_in (lines.Answer number values sides) = Some sides
box_in (lines.Resolvent number left right pivot sides) = Some sides
box_in line = None

abbrev pub value_in : LogValue → Value
value_in (written.Bool b) = value.Bool b
value_in (written.Int x) = value.Int x
value_in (written.Set set) = value.Set set

abbrev pub answer_in : Line → Option (List Value)
answer_in (lines.Answer number values sides) = Some (map value_in values)
answer_in line = None

-- how the line ends the log
abbrev pub end_in : Line → Option End
end_in (lines.Close number) = Some Complete
end_in lines.End = Some Open
end_in line = None

-- ---- what the lines have made

unfoldable pub table_of : List Line → List Node
table_of log = filter_map node_in log

-- the boxes, in the order of their numbers
unfoldable pub boxes_of : List Line → List Sides
boxes_of log = filter_map box_in log

unfoldable pub listed_answers : List Line → List (List Value)
listed_answers log = filter_map answer_in log

unfoldable pub ends_of : List Line → List End
ends_of log = filter_map end_in log

-- What the rules read of the lines before: whether there are any, the table, the boxes, the answers and the ends.
pub record LogState : Type 0 where
  pub begun : Bool
  pub table : List Node
  pub boxes : List Sides
  pub answers : List (List Value)
  pub ends : List End

unfoldable pub state_of : List Line → LogState
state_of log = record {
  begun = nat_lt 0 (length log);
  table = table_of log;
  boxes = boxes_of log;
  answers = listed_answers log;
  ends = ends_of log;
}

-- the list, and behind it what there is
abbrev pub with_some : {X : Type 0} → List X → Option X → List X
with_some xs None = xs
with_some xs (Some x) = xs ++ x ∷ []

-- the state with one more line
abbrev pub after : LogState → Line → LogState
after s line = record {
  begun = true;
  table = with_some s.table (node_in line);
  boxes = with_some s.boxes (box_in line);
  answers = with_some s.answers (answer_in line);
  ends = with_some s.ends (end_in line);
}

-- box number k
abbrev pub box_at : LogState → ℕ → Option Sides
box_at s k = slice_get s.boxes k
