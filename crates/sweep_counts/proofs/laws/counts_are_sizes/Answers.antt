use Rattle.sweep_counts.proofs.Sizes.{size_counted}
use Rattle.sweep_counts.proofs.laws.counts_are_sizes.Goals as goal

pub returns : goal.returns
returns c = size_counted
