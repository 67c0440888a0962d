use Rattle.std.proofs.Common.{◌≡◌, ◌≤◌, length, drop}
use Rattle.std.specs.List.{All}
use Rattle.diagram_arena.specs.Arena.{table}
use Rattle.explain.specs.Scans.{PassesOrIs}
use Rattle.explain.proofs.mattering.level_back.Given as goal

abbrev pub invariant-loop-at : goal.invariant-loop-at
invariant-loop-at l =
    (l.ops ≡ l.fn.ops) × (l.at ≤ length l.trail.entries)
    × All (PassesOrIs l.layout (table l.fn.ops.arena) l.running l.v) (drop l.at l.trail.entries)

abbrev pub decreases-loop-at : goal.decreases-loop-at
decreases-loop-at l = l.at
