use Rattle.std.proofs.Common.{◌+◌, take}
use Rattle.std.specs.Prelude.{All}
use Rattle.choice_machine.specs.Building.{AreStatesAt, IsRowOf, AppendsRows}
use Rattle.choice_machine.proofs.building.next_layer.Given as goal

abbrev pub invariant-loop-joint : goal.invariant-loop-joint
invariant-loop-joint g l = record {
  occur : All (λ joint. AreStatesAt g.M.Machine.occurs l.machines (l.at + 1) joint.items) l.layer.keys;
  appends : AppendsRows (IsRowOf g.M.Machine.rules (λ joint. joint.items) l.machines l.at l.base l.layer.keys) (take l.joint-index l.joints) l.fn.rows.items l.rows.items;
}
