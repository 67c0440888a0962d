use Rattle.plain_search.proofs.DecideLemmas.{LeastSoFar}
use Rattle.plain_search.proofs.deciding.least_of.Given as goal

abbrev pub invariant-loop-value : goal.invariant-loop-value
invariant-loop-value l = LeastSoFar l.set l.value-index l.least
