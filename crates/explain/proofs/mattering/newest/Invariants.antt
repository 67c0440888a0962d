use Rattle.std.proofs.Common.{◌≡◌, ◌≤◌, length, drop}
use Rattle.std.specs.List.{All}
use Rattle.diagram_arena.specs.Arena.{table}
use Rattle.explain.specs.Scans.{Passes}
use Rattle.explain.proofs.mattering.newest.Given as goal

abbrev pub invariant-loop-at : goal.invariant-loop-at
invariant-loop-at l =
    (l.ops ≡ l.fn.ops) × (l.at ≤ length l.trail.entries)
    × All (Passes l.layout (table l.fn.ops.arena) l.running) (drop l.at l.trail.entries)

abbrev pub decreases-loop-at : goal.decreases-loop-at
decreases-loop-at l = l.at
