use Rattle.std.proofs.Common.{◌≡◌, length}
use Rattle.diagram_arena.specs.Arena.{table}
use Rattle.propagation.specs.Quiet.{IsQueueOf}
use Rattle.propagation.specs.Work.{IsOnward, IsCalm, work}
use Rattle.propagation.proofs.propagating.propagate.Given as goal

abbrev pub invariant-steps : goal.invariant-steps
invariant-steps l = record {
  done : IsOnward l.p l.layout l.boxes l.initial.ops l.ops l.initial.trail l.trail;
  queue : IsQueueOf l.compiled l.queue;
  sizes : length l.sizes.items ≡ length l.initial.sizes.items;
  calm : IsCalm l.p l.layout (table l.ops.arena) l.boxes l.trail l.queue;
}

abbrev pub decreases-steps : goal.decreases-steps
decreases-steps l = work l.p l.layout (table l.ops.arena) l.trail l.queue
