use Rattle.diagram_arena.specs.Table.{IsLive}
use Rattle.diagram_arena.specs.Arena.{table}
use Rattle.node_reclaim.specs.Growth.{Stays}
use Rattle.diagram_tests.proofs.memo.odd.Given as goal

-- the sum so far is there, and so is all that was
abbrev pub invariant-loop-bit : goal.invariant-loop-bit
invariant-loop-bit l = record {
  live : IsLive (table l.ops.arena) l.sum;
  stays : Stays l.initial.ops l.ops;
}
