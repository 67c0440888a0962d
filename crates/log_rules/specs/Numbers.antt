-- The numbers of the reasons for which a line is refused, and the order in which they are tried. This project's own.
use Rattle.std.specs.Prelude.{ℕ}
use Rattle.log_rules.specs.declared.reasons.Reason.{Reason}
use Rattle.log_rules.specs.declared.reasons.Reason.TheVariants as reason

abbrev pub number_of : Reason → ℕ
number_of reason.Form = 1
number_of reason.Number = 2
number_of reason.Children = 3
number_of reason.Sides = 4
number_of reason.Scope = 5
number_of reason.Axiom = 6
number_of reason.Boxes = 7
number_of reason.Resolvent = 8
number_of reason.Answer = 9
number_of reason.AnswerBox = 10
number_of reason.Close = 11
number_of reason.End = 12

-- when a reason is tried: the last one first, and then the others by their numbers
abbrev pub turn_of : Reason → ℕ
turn_of reason.End = 0
turn_of r = number_of r
