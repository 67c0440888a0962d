use Rattle.sweep_sums.proofs.Weighing.{sum_is_weighted}
use Rattle.sweep_sums.proofs.weights.sums_are_weighted.Goals as goal

pub returns : goal.returns
returns c = sum_is_weighted
