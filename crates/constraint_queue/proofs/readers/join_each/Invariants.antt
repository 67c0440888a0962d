use Rattle.std.proofs.Common.{◌≡◌, length, take}
use Rattle.constraint_queue.specs.Waiting.{HaveJoined}
use Rattle.constraint_queue.proofs.readers.join_each.Given as goal

abbrev pub invariant-loop-v : goal.invariant-loop-v
invariant-loop-v l = record {
  long : length l.readers.items ≡ length l.initial.readers.items;
  joined : HaveJoined l.c (take l.v-index l.scope) l.initial.readers.items l.readers.items;
}
