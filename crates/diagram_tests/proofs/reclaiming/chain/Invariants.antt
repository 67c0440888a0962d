use Rattle.std.proofs.Common.{◌≤◌}
use Rattle.diagram_arena.specs.Table.{IsLive, depth}
use Rattle.diagram_arena.specs.Arena.{table}
use Rattle.diagram_tests.proofs.reclaiming.chain.Given as goal

-- what was made so far is there, and asks no bit that is left
abbrev pub invariant-loop-left : goal.invariant-loop-left
invariant-loop-left l = IsLive (table l.pool.arena) l.below × (l.left ≤ depth (table l.pool.arena) l.below)

abbrev pub decreases-loop-left : goal.decreases-loop-left
decreases-loop-left l = l.left
