use Rattle.std.proofs.Common.{◌-◌}
use Rattle.diagram_arena.specs.Table.{bit_end, depth}
use Rattle.diagram_arena.specs.Arena.{table}
use Rattle.node_reclaim.proofs.marking.+mark_reached.Given as goal

abbrev pub decreases-mark_reached : goal.decreases-mark_reached
decreases-mark_reached l = bit_end - depth (table l.arena.now) l.r
