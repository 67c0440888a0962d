use Rattle.std.proofs.Common.{◌≡◌, ◌+◌, ◌-◌, ◌≤◌, vec_len}
use Rattle.desk.proofs.SoFar.{IsSoFar}
use Rattle.desk.proofs.texts.read_text.Given as goal

abbrev pub invariant-loop-slot : goal.invariant-loop-slot
invariant-loop-slot g l = record {
  so_far : IsSoFar l.slot (g.D.Desk.state l.fn.desk) (g.D.Desk.state l.desk) l.text.items;
  within : vec_len l.text ≤ l.limit + 1;
  faults : g.D.Desk.faults l.desk ≡ g.D.Desk.faults l.fn.desk;
  chunk : vec_len l.chunk ≡ 65536;
}

abbrev pub decreases-loop-slot : goal.decreases-loop-slot
decreases-loop-slot g l = l.limit + 1 - vec_len l.text
