use Rattle.std.proofs.Common.{◌-◌}
use Rattle.diagram_arena.specs.Table.{bit_end}
use Rattle.diagram_arena.specs.Arena.{table}
use Rattle.diagram_ops.specs.Steps.{first}
use Rattle.diagram_ops.proofs.operations.Ops.+answer_below.Given as goal

abbrev pub decreases-answer_below : goal.decreases-answer_below
decreases-answer_below l = bit_end - first (table l.self.now.arena) l.question
