use Rattle.std.proofs.Common.{take}
use Rattle.sweep_shapes.specs.Trials.{IsAllowed}
use Rattle.sweep_shapes.proofs.Opening.{Opened}
use Rattle.sweep_shapes.proofs.axioms.is_possible_by_trials.Given as goal

abbrev pub invariant-loop-v : goal.invariant-loop-v
invariant-loop-v l = Opened (IsAllowed l.kinds l.table l.sides) l.initial.slots l.slots l.choices.items (take l.v-index l.variables)
