use Rattle.std.proofs.Common.{ℕ, ◌<◌, [], get_or}
use Rattle.plain_search.specs.Moves.{IsLone}
use Rattle.plain_search.proofs.deciding.open_variable.Given as goal

abbrev pub invariant-loop-v : goal.invariant-loop-v
invariant-loop-v l = (u : ℕ) → u < l.v → IsLone (get_or l.domains u [])
