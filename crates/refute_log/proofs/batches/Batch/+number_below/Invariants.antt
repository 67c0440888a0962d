use Rattle.std.proofs.Common.{◌-◌}
use Rattle.diagram_arena.specs.Table.{bit_end, depth}
use Rattle.diagram_arena.specs.Arena.{table}
use Rattle.refute_log.proofs.batches.Batch.+number_below.Given as goal

abbrev pub decreases-number_below : goal.decreases-number_below
decreases-number_below l = bit_end - depth (table l.ops.now.arena) l.r
