use Rattle.std.proofs.Common.{◌≡◌, drop}
use Rattle.sweep_sets.specs.Rules.{after}
use Rattle.sweep_sets.proofs.reading.after.Given as goal

abbrev pub invariant-loop-marks : goal.invariant-loop-marks
invariant-loop-marks l = after l.rule l.progress (drop l.marks-index l.elements) ≡ after l.rule l.fn.progress l.elements
