use Rattle.std.proofs.Common.{ℕ, ◌<◌, [], length, get_or}
use Rattle.plain_search.proofs.solving.have_values.Given as goal

abbrev pub invariant-loop-set : goal.invariant-loop-set
invariant-loop-set l = (v : ℕ) → v < l.set-index → 0 < length (get_or l.sets v [])
