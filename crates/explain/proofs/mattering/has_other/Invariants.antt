use Rattle.std.proofs.Common.{◌≡◌, ◌≤◌, take, drop}
use Rattle.std.specs.List.{All}
use Rattle.diagram_arena.specs.Arena.{table}
use Rattle.explain.specs.Scans.{IsNoOther}
use Rattle.explain.proofs.mattering.has_other.Given as goal

abbrev pub invariant-loop-at : goal.invariant-loop-at
invariant-loop-at l =
    (l.ops ≡ l.fn.ops) × (l.at ≤ l.place)
    × All (IsNoOther l.layout (table l.fn.ops.arena) l.running l.newest.level l.newest.var) (drop l.at (take l.place l.trail.entries))

abbrev pub decreases-loop-at : goal.decreases-loop-at
decreases-loop-at l = l.at
