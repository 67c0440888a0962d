use Rattle.std.proofs.Common.{[], List, subst}
use Rattle.diagram_arena.specs.declared.nodes.Ref.{Ref}
use Rattle.diagram_arena.specs.Arena.{table}
use Rattle.box_clauses.specs.Sides.{sets_of}
use Rattle.running_boxes.specs.Running.{AreSidesOfRunning}
use Rattle.explain.proofs.Frames.{held_grown}
use Rattle.explain.proofs.StillPinned.{still_pinned}
use Rattle.explain.proofs.holding.take_sides.Goals as goal

pub release-requires : goal.release-requires
release-requires c = held_grown c.args.ops.now c.hold_sides.new.ops c.args.start.now c.args.running (sets_of c.in-Ok.held) c.requires.held c.in-Ok.ensures.gained

pub release-requires-in-Err : goal.release-requires-in-Err
release-requires-in-Err c = held_grown c.args.ops.now c.hold_sides.new.ops c.args.start.now c.args.running [] c.requires.held c.in-Err.ensures.ungained

pub returns-in-Ok-clause-still : goal.returns-in-Ok-clause-still
returns-in-Ok-clause-still c =
    let t = table c.args.ops.now.arena in
    let of : AreSidesOfRunning c.args.layout.now t c.args.running c.in-Ok.held
    = subst (λ (rs : List Ref). AreSidesOfRunning c.args.layout.now t rs c.in-Ok.held) c.refs.ensures c.in-Ok.ensures.sides in
    still_pinned c.sets_of_the_same_values_are_one.ensures c.args.layout.now t c.obeys_order.ensures c.pool.ensures.reduced c.args.start.now c.args.running c.requires.start c.requires.running c.in-Ok.held of
    c.args.ops.now c.hold_sides.new.ops c.release.new.ops c.requires.held c.in-Ok.ensures.gained c.release.ensures.lost
