use Rattle.std.proofs.Common.{◌≡◌, ◌-◌, ◌≤◌, length, take}
use Rattle.desk.specs.State.{written}
use Rattle.desk.proofs.texts.write_text.Given as goal

abbrev pub invariant-loop-at : goal.invariant-loop-at
invariant-loop-at g l = record {
  place : l.at ≤ length l.piece;
  state : g.D.Desk.state l.desk ≡ written l.to (take l.at l.piece) (g.D.Desk.state l.fn.desk);
  untouched : l.at ≡ 0 → l.desk ≡ l.fn.desk;
  faults : g.D.Desk.faults l.desk ≡ g.D.Desk.faults l.fn.desk;
}

abbrev pub decreases-loop-at : goal.decreases-loop-at
decreases-loop-at g l = length l.piece - l.at
