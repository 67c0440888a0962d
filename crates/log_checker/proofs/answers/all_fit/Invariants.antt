use Rattle.std.proofs.Common.{ℕ, ◌<◌}
use Rattle.log_checker.specs.Words.{IsFitAt}
use Rattle.log_checker.proofs.answers.all_fit.Given as goal

abbrev pub invariant-loop-i : goal.invariant-loop-i
invariant-loop-i l = (k : ℕ) → k < l.i → IsFitAt l.check.layout.now.kinds l.check.earlier.now.table l.o.0 l.node l.bound l.greatest l.numbers k
