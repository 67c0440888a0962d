use Rattle.std.proofs.Common.{take}
use Rattle.log_rules.specs.Boxes.{side_of}
use Rattle.sweep_shapes.proofs.Filtering.{IsFiltered}
use Rattle.sweep_shapes.proofs.choices.chosen.Given as goal

abbrev pub invariant-loop-x : goal.invariant-loop-x
invariant-loop-x l = IsFiltered (side_of l.layout.kinds l.table l.sides l.v.0) (take l.x-index l.candidates) l.values.items
