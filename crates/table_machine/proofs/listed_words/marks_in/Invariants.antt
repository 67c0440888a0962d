use Rattle.std.proofs.Common.{◌≡◌, ◌+◌, drop}
use Rattle.table_machine.specs.Marked.{marks_in}
use Rattle.table_machine.proofs.listed_words.marks_in.Given as goal

abbrev pub invariant-loop-mark : goal.invariant-loop-mark
invariant-loop-mark l = l.count + marks_in (drop l.mark-index l.marks) ≡ marks_in l.marks
