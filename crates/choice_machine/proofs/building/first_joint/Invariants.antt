use Rattle.choice_machine.specs.Building.{AreStatesAt, AreStarts}
use Rattle.choice_machine.proofs.building.first_joint.Given as goal

abbrev pub invariant-loop-number : goal.invariant-loop-number
invariant-loop-number g l = record {
  occur : AreStatesAt g.M.Machine.occurs l.machines 0 l.joint.items;
  starts : AreStarts g.M.Machine.rules l.machines l.number l.joint.items;
}
