use Rattle.std.proofs.Common.{◌-◌}
use Rattle.diagram_arena.specs.Table.{bit_end}
use Rattle.diagram_arena.specs.Arena.{table}
use Rattle.diagram_ops.specs.Steps.{first}
use Rattle.diagram_ops.proofs.operations.Ops.+asks_some.Given as goal

abbrev pub decreases-asks_some : goal.decreases-asks_some
decreases-asks_some l = bit_end - first (table l.self.now.arena) l.question
