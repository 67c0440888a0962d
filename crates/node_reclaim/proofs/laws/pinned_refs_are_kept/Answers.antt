use Rattle.node_reclaim.proofs.Reached.{held_means}
use Rattle.node_reclaim.proofs.laws.pinned_refs_are_kept.Goals as goal

pub returns : goal.returns
returns c = held_means
