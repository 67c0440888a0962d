use Rattle.std.proofs.Common.{ℕ, ◌<◌}
use Rattle.log_checker.specs.Words.{IsOnlyAt}
use Rattle.log_checker.proofs.answers.are_only.Given as goal

abbrev pub invariant-loop-v : goal.invariant-loop-v
invariant-loop-v l = (k : ℕ) → k < l.v → IsOnlyAt l.check.problem.now.kinds l.check.earlier.now.table l.sides l.values k
