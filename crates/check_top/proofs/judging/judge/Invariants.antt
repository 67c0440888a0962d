use Rattle.std.proofs.Common.{◌≡◌, ◌+◌, ◌-◌, ◌^◌, ◌≤◌, length}
use Rattle.desk.specs.declared.outside.Slot.TheVariants as slot
use Rattle.desk.specs.Lines.{unread, left_for}
use Rattle.check_top.specs.Steps.{TakesSome}
use Rattle.check_top.proofs.LogsRead.{IsReadSoFar}
use Rattle.check_top.proofs.judging.judge.Given as goal

abbrev pub invariant-loop-verdict : goal.invariant-loop-verdict
invariant-loop-verdict g l = record {
  so_far : IsReadSoFar l.fn.problem (g.D.Desk.state l.fn.desk).log_read.left l.checker (left_for slot.Log (g.D.Desk.state l.desk) (unread l.lines)) l.number;
  takes : TakesSome (g.D.Desk.state l.fn.desk) (g.D.Desk.state l.desk);
  counts : l.number + length (unread l.lines) ≤ (g.D.Desk.state l.desk).log_read.given + 1;
  faults : g.D.Desk.faults l.desk ≡ g.D.Desk.faults l.fn.desk;
}

abbrev pub decreases-loop-verdict : goal.decreases-loop-verdict
decreases-loop-verdict g l = (2 ^ 40 - (g.D.Desk.state l.desk).log_read.given) + length (unread l.lines)
