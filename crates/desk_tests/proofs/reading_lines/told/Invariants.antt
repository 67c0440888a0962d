use Rattle.std.specs.Prelude.{IsTrue}
use Rattle.desk.specs.State.{reading}
use Rattle.desk.specs.declared.outside.Slot.TheVariants as slots
use Rattle.desk_tests.proofs.reading_lines.told.Given as goal

abbrev pub invariant-loop : goal.invariant-loop
invariant-loop g l = IsTrue (reading slots.Log (g.D.Desk.state l.desk)).begun
