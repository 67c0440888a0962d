use Rattle.std.proofs.Common.{◌-◌}
use Rattle.diagram_arena.specs.Table.{bit_end}
use Rattle.diagram_arena.specs.Arena.{table}
use Rattle.diagram_ops.specs.Meanings.{first_of}
use Rattle.diagram_ops.proofs.operations.Ops.+project_below.Given as goal

abbrev pub decreases-project_below : goal.decreases-project_below
decreases-project_below l = bit_end - first_of (table l.self.now.arena) l.work.now.pairs.pairs.items l.p
