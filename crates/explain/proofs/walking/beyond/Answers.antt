use Rattle.std.proofs.Common.{Err, ap}
use Rattle.explain.proofs.Pins.{trail_held}
use Rattle.explain.proofs.Turning.{passed_on, reason_known, trail_passed, held_passed, held_resolved, refused_left, refused_way, resolved_left, resolved_less, resolved_way}
use Rattle.explain.proofs.walking.beyond.Goals as goal

pub pass-requires-clause-held : goal.pass-requires-clause-held
pass-requires-clause-held c = trail_held c.args.ops.now c.args.compiled.now c.args.trail.now c.args.boxes.now c.args.running.now c.requires.held

pub resolve-requires-clause-reason : goal.resolve-requires-clause-reason
resolve-requires-clause-reason c = reason_known c.args.p.now c.going.ensures c.staying.ensures c.args.layout.now c.args.boxes.now c.args.compiled.now c.args.trail.now c.pass.new.trail c.args.running.now c.args.place c.args.ops.now c.pass.new.ops
    c.requires.trail c.requires.held c.requires.newest c.requires.on c.pass.ensures.left c.pass.ensures.undone c.pass.ensures.only c.pass.ensures.moved

pub resolve-requires-clause-trail : goal.resolve-requires-clause-trail
resolve-requires-clause-trail c = trail_passed c.args.p.now c.going.ensures c.staying.ensures c.args.layout.now c.args.boxes.now c.args.compiled.now c.args.trail.now c.pass.new.trail c.args.running.now c.args.place c.args.ops.now c.pass.new.ops
    c.requires.trail c.requires.held c.requires.newest c.requires.on c.pass.ensures.left c.pass.ensures.undone c.pass.ensures.only c.pass.ensures.moved

pub resolve-requires-clause-held : goal.resolve-requires-clause-held
resolve-requires-clause-held c = held_passed c.args.p.now c.going.ensures c.staying.ensures c.args.layout.now c.args.boxes.now c.args.compiled.now c.args.trail.now c.pass.new.trail c.args.running.now c.args.place c.args.ops.now c.pass.new.ops
    c.requires.trail c.requires.held c.requires.newest c.requires.on c.pass.ensures.left c.pass.ensures.undone c.pass.ensures.only c.pass.ensures.moved

pub returns-in_err-resolve-clause-left : goal.returns-in_err-resolve-clause-left
returns-in_err-resolve-clause-left c = refused_left c.args.p.now c.going.ensures c.staying.ensures c.args.layout.now c.args.boxes.now c.args.compiled.now c.args.trail.now c.pass.new.trail c.args.running.now c.args.place c.args.ops.now c.pass.new.ops
    c.requires.trail c.requires.held c.requires.newest c.requires.on c.pass.ensures.left c.pass.ensures.undone c.pass.ensures.only c.pass.ensures.moved c.resolve.new.ops c.resolve.new.running c.resolve.ensures.left c.pool.ensures.pinned_live c.pool.ensures.reduced

pub returns-in_err-resolve-clause-full_way : goal.returns-in_err-resolve-clause-full_way
returns-in_err-resolve-clause-full_way c =
    passed_on c.from_residual.result c.in_err-resolve.field-0.0 _ c.from_residual.ensures.1 (λ e. refused_way c.args.p.now c.going.ensures c.staying.ensures c.args.layout.now c.args.boxes.now c.args.compiled.now c.args.trail.now c.pass.new.trail c.args.running.now c.args.place c.args.ops.now c.pass.new.ops
    c.requires.trail c.requires.held c.requires.newest c.requires.on c.pass.ensures.left c.pass.ensures.undone c.pass.ensures.only c.pass.ensures.moved c.resolve.new.ops c.resolve.new.running c.resolve.ensures.left (c.in_err-resolve.ensures.reads (ap Err e)))

pub undo_one-requires-clause-held : goal.undo_one-requires-clause-held
undo_one-requires-clause-held c = held_resolved c.args.p.now c.going.ensures c.staying.ensures c.args.layout.now c.args.boxes.now c.args.compiled.now c.args.trail.now c.pass.new.trail c.args.running.now c.args.place c.args.ops.now c.pass.new.ops
    c.requires.trail c.requires.held c.requires.newest c.requires.on c.pass.ensures.left c.pass.ensures.undone c.pass.ensures.only c.pass.ensures.moved c.resolve.new.ops c.resolve.new.running c.resolve.ensures.left

pub returns-clause-way : goal.returns-clause-way
returns-clause-way c = resolved_way c.args.p.now c.going.ensures c.staying.ensures c.args.layout.now c.args.boxes.now c.args.compiled.now c.args.trail.now c.pass.new.trail c.args.running.now c.args.place c.args.ops.now c.pass.new.ops
    c.requires.trail c.requires.held c.requires.newest c.requires.on c.pass.ensures.left c.pass.ensures.undone c.pass.ensures.only c.pass.ensures.moved c.resolve.new.ops c.resolve.new.running c.resolve.ensures.left c.undo_one.new.ops c.undo_one.new.self c.undo_one.ensures.undone c.undo_one.ensures.only c.in_ok-resolve.ensures.resolved

pub returns-clause-less : goal.returns-clause-less
returns-clause-less c = resolved_less c.args.p.now c.going.ensures c.staying.ensures c.args.layout.now c.args.boxes.now c.args.compiled.now c.args.trail.now c.pass.new.trail c.args.running.now c.args.place c.args.ops.now c.pass.new.ops
    c.requires.trail c.requires.held c.requires.newest c.requires.on c.pass.ensures.left c.pass.ensures.undone c.pass.ensures.only c.pass.ensures.moved c.resolve.new.ops c.resolve.new.running c.resolve.ensures.left c.undo_one.new.ops c.undo_one.new.self c.undo_one.ensures.undone c.undo_one.ensures.only

pub returns-clause-left : goal.returns-clause-left
returns-clause-left c = resolved_left c.args.p.now c.going.ensures c.staying.ensures c.args.layout.now c.args.boxes.now c.args.compiled.now c.args.trail.now c.pass.new.trail c.args.running.now c.args.place c.args.ops.now c.pass.new.ops
    c.requires.trail c.requires.held c.requires.newest c.requires.on c.pass.ensures.left c.pass.ensures.undone c.pass.ensures.only c.pass.ensures.moved c.resolve.new.ops c.resolve.new.running c.resolve.ensures.left c.undo_one.new.ops c.undo_one.new.self c.undo_one.ensures.undone c.undo_one.ensures.only c.pool.ensures.pinned_live c.pool.ensures.reduced c.pool-3.ensures.pinned_live c.undo_one.ensures.moved
