use Rattle.std.proofs.Common.{◌≡◌, ◌++◌, drop}
use Rattle.table_machine.specs.Marked.{marks_in, marked_readings}
use Rattle.table_machine.proofs.listed_words.marked_readings.Given as goal

abbrev pub invariant-loop-mark : goal.invariant-loop-mark
invariant-loop-mark l = record {
  rest_is : l.rest ≡ marks_in (drop l.mark-index l.marks);
  so_far : l.readings.items ++ marked_readings l.total l.count (drop l.mark-index l.marks) ≡ marked_readings l.total l.count l.marks;
}
