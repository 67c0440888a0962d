use Rattle.std.proofs.Common.{take}
use Rattle.sweep_scopes.specs.Meetings.{Accepts}
use Rattle.sweep_scopes.proofs.meeting.some_accepts.Given as goal

abbrev pub invariant-loop-state : goal.invariant-loop-state
invariant-loop-state g l = Accepts (g.S.Shape.rules l.shape) (take l.state-index l.states) → ⊥
