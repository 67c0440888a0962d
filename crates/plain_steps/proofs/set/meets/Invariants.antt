use Rattle.std.proofs.Common.{◌≡◌, ℕ, ◌<◌, get_or, false}
use Rattle.plain_steps.specs.Sets.{has}
use Rattle.plain_steps.proofs.set.meets.Given as goal

abbrev pub invariant-loop-x : goal.invariant-loop-x
invariant-loop-x l = (k : ℕ) → k < l.x-index → has l.b (get_or l.a k 0) ≡ false
