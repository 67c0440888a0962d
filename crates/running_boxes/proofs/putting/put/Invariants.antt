use Rattle.std.proofs.Common.{◌≡◌, length, drop}
use Rattle.pin_lists.specs.Units.{Moves}
use Rattle.running_boxes.specs.Work.{put_sides}
use Rattle.running_boxes.proofs.putting.put.Given as goal

abbrev pub invariant-loop-side : goal.invariant-loop-side
invariant-loop-side l = record {
  rest : put_sides (drop l.side-index l.sides) l.running ≡ put_sides l.sides l.initial.running;
  long : length l.running ≡ length l.initial.running;
  moved : Moves l.initial.ops l.ops l.initial.running l.running;
  only : l.ops ≡ record l.initial.ops { counts = l.ops.counts };
}
