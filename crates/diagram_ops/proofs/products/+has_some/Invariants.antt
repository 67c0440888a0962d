use Rattle.std.proofs.Common.{◌-◌}
use Rattle.diagram_arena.specs.Table.{bit_end}
use Rattle.diagram_arena.specs.Arena.{table}
use Rattle.diagram_ops.specs.Meanings.{first_of}
use Rattle.diagram_ops.proofs.products.+has_some.Given as goal

abbrev pub decreases-has_some : goal.decreases-has_some
decreases-has_some l = bit_end - first_of (table l.arena.now) l.pairs.now.pairs.items l.p
