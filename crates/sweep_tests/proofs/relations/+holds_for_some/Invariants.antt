use Rattle.std.proofs.Common.{length}
use Rattle.sweep_tests.proofs.relations.+holds_for_some.Given as goal

abbrev pub decreases-holds_for_some : goal.decreases-holds_for_some
decreases-holds_for_some l = length l.kinds.now
