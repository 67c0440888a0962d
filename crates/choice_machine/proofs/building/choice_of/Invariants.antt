use Rattle.choice_machine.specs.Building.{IsLayer}
use Rattle.choice_machine.proofs.building.choice_of.Given as goal

abbrev pub invariant-loop-at : goal.invariant-loop-at
invariant-loop-at g l = IsLayer g.M.Machine.rules (λ joint. joint.items) l.machines g.M.Machine.occurs l.rows.items l.at l.layer.keys
