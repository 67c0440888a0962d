use Rattle.std.proofs.Common.{◌+◌, take}
use Rattle.choice_machine.specs.Building.{AreStatesAt, IsNext}
use Rattle.choice_machine.proofs.building.joint_after.Given as goal

abbrev pub invariant-loop-member : goal.invariant-loop-member
invariant-loop-member g l = record {
  occur : AreStatesAt g.M.Machine.occurs l.machines (l.at + 1) l.next.items;
  next : IsNext g.M.Machine.rules l.machines l.at l.value (take l.member-index l.joint) l.next.items;
}
