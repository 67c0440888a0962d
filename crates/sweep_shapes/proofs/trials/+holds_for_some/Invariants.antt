use Rattle.std.proofs.Common.{length, take}
use Rattle.sweep_shapes.proofs.Trying.{TriedInVain}
use Rattle.sweep_shapes.proofs.trials.+holds_for_some.Given as goal

abbrev pub decreases-holds_for_some : goal.decreases-holds_for_some
decreases-holds_for_some l = length l.choices.now

abbrev pub invariant-loop-x : goal.invariant-loop-x
invariant-loop-x l = TriedInVain l.fn.values l.values l.first l.others (take l.x-index l.tried) l.c
