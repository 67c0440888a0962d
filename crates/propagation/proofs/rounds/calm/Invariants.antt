use Rattle.std.proofs.Common.{◌≡◌, length}
use Rattle.diagram_arena.specs.Arena.{table}
use Rattle.exact_steps.specs.Domains.{family}
use Rattle.propagation.specs.Quiet.{IsQueueOf}
use Rattle.propagation.specs.Work.{IsOnward, AreQuietApart, values_left}
use Rattle.propagation.proofs.rounds.calm.Given as goal

abbrev pub invariant-rounds : goal.invariant-rounds
invariant-rounds l = record {
  done : IsOnward l.p l.layout l.boxes l.initial.ops l.ops l.initial.trail l.trail;
  queue : IsQueueOf l.compiled l.queue;
  sizes : length l.sizes.items ≡ length l.initial.sizes.items;
  settled : AreQuietApart l.p (family l.layout (table l.ops.arena) l.trail.domains) l.queue;
}

abbrev pub decreases-rounds : goal.decreases-rounds
decreases-rounds l = values_left l.p l.layout (table l.ops.arena) l.trail
