use Rattle.std.proofs.Common.{length, take}
use Rattle.set_meaning.specs.Relations.{variables_of}
use Rattle.sweep_shapes.proofs.Fixing.{TriedInVain}
use Rattle.sweep_shapes.proofs.axioms.+is_possible.Given as goal

abbrev pub decreases-is_possible : goal.decreases-is_possible
decreases-is_possible l = length (variables_of l.c.now)

abbrev pub invariant-loop-x : goal.invariant-loop-x
invariant-loop-x l = TriedInVain l.kinds l.table l.left l.c l.v (take l.x-index l.tried)
