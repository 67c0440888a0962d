use Rattle.std.proofs.Common.{take}
use Rattle.choice_machine.specs.Building.{IsEndOf, AppendsRows}
use Rattle.choice_machine.proofs.building.push_ends.Given as goal

abbrev pub invariant-loop-joint : goal.invariant-loop-joint
invariant-loop-joint g l = AppendsRows (IsEndOf g.M.Machine.rules (λ joint. joint.items) l.machines) (take l.joint-index l.joints) l.fn.rows.items l.rows.items
