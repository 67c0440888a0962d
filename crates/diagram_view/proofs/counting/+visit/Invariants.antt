use Rattle.std.proofs.Common.{◌-◌}
use Rattle.diagram_arena.specs.Table.{bit_end, depth}
use Rattle.diagram_arena.specs.Arena.{table}
use Rattle.diagram_view.proofs.counting.+visit.Given as goal

abbrev pub decreases-visit : goal.decreases-visit
decreases-visit l = bit_end - depth (table l.arena.now) l.r
