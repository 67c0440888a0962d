use Rattle.node_reclaim.specs.Growth.{Stays}
use Rattle.step_tests.proofs.small_domains.masks_of.Given as goal

abbrev pub invariant-loop-v : goal.invariant-loop-v
invariant-loop-v l = Stays l.initial.ops l.ops
