use Rattle.node_reclaim.proofs.Counts.{kept_new}
use Rattle.node_reclaim.proofs.pinning.Pool.new.Goals as goal

pub invariant_of-result : goal.invariant_of-result
invariant_of-result c = rw c.new-2.ensures.empty (kept_new c.new.result c.new.ensures.reduced)
