use Rattle.diagram_arena.specs.Arena.{table}
use Rattle.pin_lists.specs.Units.{UnitsLeave}
use Rattle.exact_steps.specs.Domains.{family}
use Rattle.learn_search.specs.Nodes.{IsOfRoot}
use Rattle.learn_search.specs.Way.{IsOnWay, IsQueueOf, AreSettled, work}
use Rattle.learn_search.proofs.narrowing.narrow.Given as goal

abbrev pub invariant-steps : goal.invariant-steps
invariant-steps l = record {
  done : UnitsLeave (IsOfRoot l.p) l.initial.ops l.ops l.initial.domains l.domains;
  way : IsOnWay l.p l.layout (table l.ops.arena) l.domains;
  queue : IsQueueOf l.p l.compiled l.queue;
  settled : AreSettled l.p (family l.layout (table l.ops.arena) l.domains) l.queue;
}

abbrev pub decreases-steps : goal.decreases-steps
decreases-steps l = work l.p l.layout (table l.ops.arena) l.domains l.queue
