use Rattle.std.proofs.Common.{◌≡◌, length}
use Rattle.diagram_arena.specs.Arena.{table}
use Rattle.propagation.specs.Quiet.{IsQueueOf}
use Rattle.propagation.specs.Work.{IsOfConflict, IsOnward, IsRound}
use Rattle.propagation.proofs.rounds.round.Given as goal

abbrev pub invariant-boxes : goal.invariant-boxes
invariant-boxes l = record {
  done : IsOnward l.p l.layout l.boxes l.initial.ops l.ops l.initial.trail l.trail;
  queue : IsQueueOf l.compiled l.queue;
  sizes : length l.sizes.items ≡ length l.initial.sizes.items;
  round : IsRound l.p l.layout (table l.initial.ops.arena) (table l.ops.arena) l.boxes l.b l.initial.trail l.trail l.initial.queue l.queue l.so_far;
  on : IsOfConflict l.so_far → ⊥;
}
