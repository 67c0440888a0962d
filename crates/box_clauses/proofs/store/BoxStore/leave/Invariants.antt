use Rattle.std.proofs.Common.{vec_len}
use Rattle.box_clauses.proofs.store.BoxStore.leave.Given as goal

abbrev pub decreases-loop-last : goal.decreases-loop-last
decreases-loop-last l = vec_len l.boxes
