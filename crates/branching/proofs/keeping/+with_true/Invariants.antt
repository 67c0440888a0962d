use Rattle.std.proofs.Common.{◌-◌}
use Rattle.diagram_arena.specs.Table.{bit_end, depth}
use Rattle.diagram_arena.specs.Arena.{table}
use Rattle.branching.proofs.keeping.+with_true.Given as goal

abbrev pub decreases-with_true : goal.decreases-with_true
decreases-with_true l = bit_end - depth (table l.ops.now.arena) l.f
