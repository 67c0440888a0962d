use Rattle.node_reclaim.specs.Growth.{Stays}
use Rattle.box_tests.proofs.stepping.number_of.Given as goal

abbrev pub invariant-loop-number : goal.invariant-loop-number
invariant-loop-number l = Stays l.initial.ops l.ops
