use Rattle.std.proofs.Common.{◌≡◌, false, take}
use Rattle.std.specs.Prelude.{All}
use Rattle.choice_machine.specs.Building.{IsNumbered}
use Rattle.choice_machine.proofs.building.some_accepts.Given as goal

abbrev pub invariant-loop-member : goal.invariant-loop-member
invariant-loop-member g l = All (λ p. IsNumbered l.machines p.0 (λ m. (g.M.Machine.rules m).accept p.1 ≡ false)) (take l.member-index l.joint)
