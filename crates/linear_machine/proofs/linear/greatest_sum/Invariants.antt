use Rattle.std.proofs.Common.{◌≡◌, pos, ◌+ℤ◌, ◌≤ℤ◌, drop}
use Rattle.linear_machine.specs.Steps.{greatest_sum}
use Rattle.linear_machine.proofs.linear.greatest_sum.Given as goal

abbrev pub invariant-loop-weight : goal.invariant-loop-weight
invariant-loop-weight l = record { whole : (l.greatest +ℤ greatest_sum (drop l.weight-index l.weights)) ≡ greatest_sum l.weights; high : pos 0 ≤ℤ l.greatest }
