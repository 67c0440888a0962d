use Rattle.std.proofs.Common.{◌≡◌, drop}
use Rattle.element_machine.specs.Rules.{after}
use Rattle.element_machine.proofs.reading.after.Given as goal

abbrev pub invariant-loop-marks : goal.invariant-loop-marks
invariant-loop-marks g l = after (g.M.ElementMachine.rules l.machine) l.state (drop l.marks-index l.elements) ≡ after (g.M.ElementMachine.rules l.machine) l.fn.state l.elements
