use Rattle.std.proofs.Common.{vec_len}
use Rattle.pin_lists.proofs.Counting.{AreLeft}
use Rattle.box_clauses.specs.Stored.{stored_sets}
use Rattle.box_clauses.proofs.store.BoxStore.release.Given as goal

abbrev pub invariant-loop-last : goal.invariant-loop-last
invariant-loop-last l = AreLeft l.initial.ops (stored_sets l.initial.boxes.items) l.ops (stored_sets l.boxes.items)

abbrev pub decreases-loop-last : goal.decreases-loop-last
decreases-loop-last l = vec_len l.boxes
