use Rattle.std.proofs.Common.{length}
use Rattle.set_meaning.proofs.initial.+subsets.Given as goal

abbrev pub decreases-subsets : goal.decreases-subsets
decreases-subsets l = length l.elements.now
