use Rattle.std.proofs.Common.{◌≡◌, pos, ◌+ℤ◌, ◌≤ℤ◌, drop}
use Rattle.linear_machine.specs.Steps.{least_sum}
use Rattle.linear_machine.proofs.linear.least_sum.Given as goal

abbrev pub invariant-loop-weight : goal.invariant-loop-weight
invariant-loop-weight l = record { whole : (l.least +ℤ least_sum (drop l.weight-index l.weights)) ≡ least_sum l.weights; low : l.least ≤ℤ pos 0 }
