use Rattle.std.proofs.Common.{◌≡◌, ◌++◌, drop}
use Rattle.linear_machine.specs.Steps.{least_sum, greatest_sum}
use Rattle.linear_machine.specs.Body.{places_of}
use Rattle.linear_machine.proofs.linear.places_of.Given as goal

abbrev pub invariant-loop-weight : goal.invariant-loop-weight
invariant-loop-weight l = record {
  least : l.least_behind ≡ least_sum (drop l.weight-index l.weights);
  greatest : l.greatest_behind ≡ greatest_sum (drop l.weight-index l.weights);
  made : l.places.items ++ places_of (drop l.weight-index l.weights) ≡ places_of l.weights;
}
