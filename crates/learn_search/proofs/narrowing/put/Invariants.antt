use Rattle.std.proofs.Common.{◌≡◌, length, drop}
use Rattle.pin_lists.specs.Units.{Moves}
use Rattle.learn_search.specs.Way.{put_each}
use Rattle.learn_search.proofs.narrowing.put.Given as goal

abbrev pub invariant-loop-v : goal.invariant-loop-v
invariant-loop-v l = record {
  rest : put_each (drop l.v-index l.kept) l.domains ≡ put_each l.kept l.initial.domains;
  long : length l.domains ≡ length l.initial.domains;
  moved : Moves l.initial.ops l.ops l.initial.domains l.domains;
  only : l.ops ≡ record l.initial.ops { counts = l.ops.counts };
}
