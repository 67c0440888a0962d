use Rattle.std.proofs.Common.{ℕ, ◌<◌, ◌≤◌, [], get_or}
use Rattle.search_rules.specs.Family.{Lies}
use Rattle.plain_steps.specs.Sets.{has}
use Rattle.plain_steps.proofs.table.next_outside.Given as goal

abbrev pub invariant-loop-v : goal.invariant-loop-v
invariant-loop-v l = (u : ℕ) → l.from ≤ u → u < l.v → Lies (has (get_or l.family u [])) (has (get_or l.sides u []))
