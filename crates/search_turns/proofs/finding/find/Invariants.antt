use Rattle.std.proofs.Common.{◌≡◌, length}
use Rattle.diagram_arena.specs.Arena.{table}
use Rattle.search_state.specs.Turns.{measure_of}
use Rattle.search_turns.proofs.Rounds.{IsUnderWay}
use Rattle.search_turns.proofs.finding.find.Given as goal

abbrev pub invariant-turns : goal.invariant-turns
invariant-turns l = record {
  way : IsUnderWay l.p l.layout l.compiled l.conflicts l.initial.ops l.ops l.initial.boxes l.initial.trail l.boxes l.trail l.queue l.learned;
  sizes : length l.sizes.items ≡ length l.initial.sizes.items;
}

abbrev pub decreases-turns : goal.decreases-turns
decreases-turns l = measure_of l.p l.layout (table l.ops.arena) l.boxes l.trail
