use Rattle.std.proofs.Common.{◌+◌, [], ◌∷◌, refl, arith}
use Rattle.pin_lists.proofs.Leaving.{held_after, moves_then, only_then}
use Rattle.domain_trail.specs.Trail.{held}
use Rattle.explain.proofs.Undoing.{one_more_undone, one_less, left_are, taken_are}
use Rattle.explain.proofs.walking.pass.Goals as goal

pub loop-trail-init : goal.loop-trail-init
loop-trail-init c = let within = c.requires.place in record { undone = ([], refl); long = omega (arith, within); moved = λ i. refl; only = refl }

pub undo_one-requires-clause-held : goal.undo_one-requires-clause-held
undo_one-requires-clause-held c = held_after c.args.ops.now c.loop-trail.ops (held c.args.trail.now) (held c.loop-trail.trail) c.loop-trail.invariant.moved c.requires.held

pub loop-trail-preserved : goal.loop-trail-preserved
loop-trail-preserved c =
    let before = c.loop-trail.invariant.undone in
    let less = one_less c.loop-trail.trail c.undo_one.new.self c.undo_one.ensures.undone in
    let more = c.loop-trail-test.true in
    let size = c.len.ensures in
    record {
      undone = (c.undo_one.ensures.undone.entry ∷ before.0, one_more_undone before.0 c.args.trail.now c.loop-trail.trail c.undo_one.new.self before.1 c.undo_one.ensures.undone);
      long = omega (arith, less, more, size);
      moved = moves_then c.args.ops.now c.loop-trail.ops c.undo_one.new.ops (held c.args.trail.now) (held c.loop-trail.trail) (held c.undo_one.new.self) c.loop-trail.invariant.moved c.undo_one.ensures.moved;
      only = only_then c.args.ops.now c.loop-trail.ops c.undo_one.new.ops c.loop-trail.invariant.only c.undo_one.ensures.only;
    }

pub loop-trail-smaller : goal.loop-trail-smaller
loop-trail-smaller c = let less = one_less c.loop-trail.trail c.undo_one.new.self c.undo_one.ensures.undone in omega (arith, less)

pub returns-clause-left : goal.returns-clause-left
returns-clause-left c =
    let before = c.loop-trail.invariant.undone in
    let low = c.loop-trail.invariant.long in
    let high = c.loop-trail-test.false in
    let size = c.len.ensures in
    left_are before.0 c.args.trail.now c.loop-trail.trail before.1 (c.args.place + 1) (omega (arith, low, high, size))

pub returns-clause-undone : goal.returns-clause-undone
returns-clause-undone c =
    let before = c.loop-trail.invariant.undone in
    let low = c.loop-trail.invariant.long in
    let high = c.loop-trail-test.false in
    let size = c.len.ensures in
    taken_are before.0 c.args.trail.now c.loop-trail.trail before.1 (c.args.place + 1) (omega (arith, low, high, size))
