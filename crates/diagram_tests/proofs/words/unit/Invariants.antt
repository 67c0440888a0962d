use Rattle.std.proofs.Common.{◌+◌, ◌≤◌}
use Rattle.diagram_arena.specs.Table.{IsLive, depth}
use Rattle.diagram_arena.specs.Arena.{table}
use Rattle.diagram_tests.proofs.words.unit.Given as goal

-- the word so far is there, below the bits that are still to come
abbrev pub invariant-loop-i : goal.invariant-loop-i
invariant-loop-i l = record {
  live : IsLive (table l.ops.arena) l.below;
  deep : 16 ≤ l.i + depth (table l.ops.arena) l.below;
}
