use Rattle.std.proofs.Common.{◌≡◌, false, take}
use Rattle.std.specs.List.{All}
use Rattle.log_checker.proofs.inside.some_accepts.Given as goal

abbrev pub invariant-loop-state : goal.invariant-loop-state
invariant-loop-state g l = All (λ q. (g.S.Shape.rules l.shape).accept q ≡ false) (take l.state-index l.states)
