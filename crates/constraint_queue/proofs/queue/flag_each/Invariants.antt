use Rattle.std.proofs.Common.{◌≡◌, length, take}
use Rattle.constraint_queue.specs.Waiting.{HaveFlags}
use Rattle.constraint_queue.proofs.queue.flag_each.Given as goal

abbrev pub invariant-loop-c : goal.invariant-loop-c
invariant-loop-c l = record {
  long : length l.flags ≡ length l.initial.flags;
  flagged : HaveFlags (take l.c-index l.listed) l.but l.initial.flags l.flags;
}
