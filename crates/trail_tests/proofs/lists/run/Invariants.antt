use Rattle.std.proofs.Common.{◌++◌}
use Rattle.std.specs.List.{All}
use Rattle.diagram_arena.specs.Table.{IsLive}
use Rattle.diagram_arena.specs.Arena.{table}
use Rattle.node_reclaim.specs.Holders.{AreHeld}
use Rattle.trail_tests.proofs.lists.run.Given as goal

abbrev pub invariant-loop-call : goal.invariant-loop-call
invariant-loop-call l = record {
  live : All (IsLive (table l.ops.arena)) l.nodes;
  pinned : AreHeld l.ops (l.list ++ l.aside);
}
