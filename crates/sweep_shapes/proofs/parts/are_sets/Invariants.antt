use Rattle.std.proofs.Common.{take}
use Rattle.sweep_shapes.specs.Slots.{AreSetVariables}
use Rattle.sweep_shapes.proofs.parts.are_sets.Given as goal

abbrev pub invariant-loop-v : goal.invariant-loop-v
invariant-loop-v l = AreSetVariables l.kinds (take l.v-index l.variables)
