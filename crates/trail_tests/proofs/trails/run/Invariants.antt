use Rattle.std.specs.List.{All}
use Rattle.diagram_arena.specs.Table.{IsLive}
use Rattle.diagram_arena.specs.Arena.{table}
use Rattle.node_reclaim.specs.Holders.{AreHeld}
use Rattle.domain_trail.specs.Trail.{held}
use Rattle.trail_tests.proofs.trails.run.Given as goal

abbrev pub invariant-loop-step : goal.invariant-loop-step
invariant-loop-step l = record {
  live : All (IsLive (table l.ops.arena)) l.refs;
  pinned : AreHeld l.ops (held l.trail);
}
