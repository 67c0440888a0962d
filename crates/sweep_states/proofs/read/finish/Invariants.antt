use Rattle.std.proofs.Common.{take}
use Rattle.sweep_states.proofs.Finishing.{Finishes}
use Rattle.sweep_states.proofs.read.finish.Given as goal

abbrev pub invariant-loop-pair : goal.invariant-loop-pair
invariant-loop-pair g l = Finishes (g.T.Shape.rules l.filter).accept (take l.pair-index l.pairs) l.ends.items
