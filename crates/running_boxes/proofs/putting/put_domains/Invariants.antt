use Rattle.std.proofs.Common.{◌≡◌, length, drop}
use Rattle.pin_lists.specs.Units.{Moves}
use Rattle.running_boxes.specs.Work.{put_sides, domain_sides}
use Rattle.running_boxes.proofs.putting.put_domains.Given as goal

abbrev pub invariant-loop-v : goal.invariant-loop-v
invariant-loop-v l = record {
  rest : put_sides (domain_sides l.domains (drop l.v-index l.scope)) l.running ≡ put_sides (domain_sides l.domains l.scope) l.initial.running;
  long : length l.running ≡ length l.initial.running;
  moved : Moves l.initial.ops l.ops l.initial.running l.running;
  only : l.ops ≡ record l.initial.ops { counts = l.ops.counts };
}
