use Rattle.std.proofs.Common.{◌≡◌, ◌+◌, ◌-◌, ◌≤◌, length}
use Rattle.desk.specs.Lines.{line_limit, unread, left_for, Passes}
use Rattle.desk.proofs.Newlines.{newline_at}
use Rattle.desk.proofs.lines.Lines.find_end.Given as goal

abbrev pub invariant-loop-len : goal.invariant-loop-len
invariant-loop-len g l = record {
  within : l.searched ≤ length (unread l.self);
  passed : l.searched ≤ newline_at (unread l.self);
  left : left_for l.slot (g.D.Desk.state l.desk) (unread l.self) ≡ left_for l.slot (g.D.Desk.state l.fn.desk) (unread l.fn.self);
  line : l.self.line_len ≡ 0;
  passes : Passes l.slot (g.D.Desk.state l.fn.desk) (g.D.Desk.state l.desk) (length (unread l.fn.self)) (length (unread l.self));
  faults : g.D.Desk.faults l.desk ≡ g.D.Desk.faults l.fn.desk;
}

abbrev pub decreases-loop-len : goal.decreases-loop-len
decreases-loop-len g l = line_limit + 1 - length (unread l.self)
