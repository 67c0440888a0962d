use Rattle.box_clauses.specs.Stored.{stored_sets}
use Rattle.box_clauses.proofs.Pinning.{next_held, next_spent}
use Rattle.box_clauses.proofs.store.BoxStore.release.Goals as goal

pub give_back-requires : goal.give_back-requires
give_back-requires c = next_held c.args.ops.now c.loop-last.ops (stored_sets c.self.inside.boxes.items) c.loop-last.boxes.items c.pop.new.self.items c.in-Some.last c.loop-last.invariant c.in-Some.ensures.items

pub loop-last-preserved : goal.loop-last-preserved
loop-last-preserved c =
    next_spent c.args.ops.now c.loop-last.ops c.give_back.new.ops (stored_sets c.self.inside.boxes.items) c.loop-last.boxes.items c.pop.new.self.items c.in-Some.last c.loop-last.invariant c.in-Some.ensures.items
    c.give_back.ensures
