use Rattle.std.proofs.Common.{take}
use Rattle.table_machine.specs.Values.{AreReadingsOf}
use Rattle.table_machine.proofs.initial.read_initial_values.Given as goal

abbrev pub invariant-loop-bit : goal.invariant-loop-bit
invariant-loop-bit l = AreReadingsOf l.layout l.words.items (take l.bit-index l.bits) l.readings.items
