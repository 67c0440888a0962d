use Rattle.std.proofs.Common.{◌≡◌, drop}
use Rattle.diagram_arena.specs.Arena.{table}
use Rattle.pin_lists.specs.Units.{Moves}
use Rattle.exact_steps.specs.Domains.{family}
use Rattle.domain_trail.specs.Trail.{held}
use Rattle.propagation.specs.Quiet.{HasNarrowed}
use Rattle.propagation.specs.Work.{AreNarrowings, narrowed_by}
use Rattle.propagation.proofs.putting.put.Given as goal

abbrev pub invariant-loop-v : goal.invariant-loop-v
invariant-loop-v l = record {
  done : HasNarrowed l.p l.layout (table l.initial.ops.arena) (table l.initial.ops.arena) l.boxes l.initial.trail l.trail;
  rest : AreNarrowings l.p l.layout (table l.initial.ops.arena) l.boxes l.reason (family l.layout (table l.initial.ops.arena) l.trail.domains) (drop l.v-index l.kept);
  folded : narrowed_by l.reason (drop l.v-index l.kept) l.trail ≡ narrowed_by l.reason l.kept l.initial.trail;
  moved : Moves l.initial.ops l.ops (held l.initial.trail) (held l.trail);
  only : l.ops ≡ record l.initial.ops { counts = l.ops.counts };
}
