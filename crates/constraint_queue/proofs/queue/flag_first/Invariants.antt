use Rattle.std.proofs.Common.{◌≡◌, ◌<◌, ℕ, true, false, length, get_or}
use Rattle.constraint_queue.proofs.queue.flag_first.Given as goal

abbrev pub invariant-loop-c : goal.invariant-loop-c
invariant-loop-c l = record {
  long : length l.flags ≡ length l.scopes;
  flagged : (k : ℕ) → k < l.c → get_or l.flags k false ≡ true;
}
