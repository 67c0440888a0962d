use Rattle.diagram_arena.specs.Table.{IsLive}
use Rattle.diagram_arena.specs.Arena.{table}
use Rattle.node_reclaim.specs.Growth.{Stays}
use Rattle.step_tests.proofs.small_domains.has_value.Given as goal

abbrev pub invariant-loop-bit : goal.invariant-loop-bit
invariant-loop-bit l = record {
  stays : Stays l.initial.ops l.ops;
  live : IsLive (table l.ops.arena) l.left;
}
