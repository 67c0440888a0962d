use Rattle.node_reclaim.proofs.Reached.{Marking}
use Rattle.node_reclaim.proofs.marking.mark_counted.Given as goal

abbrev pub invariant-loop-id : goal.invariant-loop-id
invariant-loop-id l = Marking l.initial.arena l.arena l.initial.id-iterator l.id-iterator
