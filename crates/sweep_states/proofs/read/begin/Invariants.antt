use Rattle.std.proofs.Common.{take}
use Rattle.sweep_states.proofs.Beginning.{Begins}
use Rattle.sweep_states.proofs.read.begin.Given as goal

abbrev pub invariant-loop-state : goal.invariant-loop-state
invariant-loop-state g l = Begins l.first (take l.state-index l.states) l.pairs.items
