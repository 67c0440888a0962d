use Rattle.std.proofs.Common.{◌<◌, length, sym, ap, ◌∙◌, subst, List}
use Rattle.std.specs.List.{All}
use Rattle.diagram_arena.specs.declared.nodes.Ref.{Ref}
use Rattle.diagram_arena.specs.Table.{IsLive}
use Rattle.diagram_arena.specs.Arena.{table}
use Rattle.node_reclaim.specs.Pool.{PoolState}
use Rattle.box_clauses.specs.declared.sides.Side.{Side}
use Rattle.running_boxes.specs.Running.{resolvent_of}
use Rattle.running_boxes.specs.Work.{AreChanges, IsReady, put_sides}
use Rattle.running_boxes.proofs.Units.{try_held, try_leaves, put_leaves, sides_known, sides_live, try_resolved}
use Rattle.running_boxes.proofs.resolving.attempt.Goals as goal

pub changes-requires-clause-reason : goal.changes-requires-clause-reason
changes-requires-clause-reason c = c.requires.reason c.newest-entry.result c.newest-entry.ensures

pub changes-requires-clause-ready : goal.changes-requires-clause-ready
changes-requires-clause-ready c = subst (IsReady c.args.p.now c.args.layout.now c.args.ops.now c.args.compiled.now c.args.trail.now c.args.boxes.now) (sym c.refs.ensures) c.requires.ready

pub returns-in_err-sides-clause-left : goal.returns-in_err-sides-clause-left
returns-in_err-sides-clause-left c = try_leaves c.laws.ensures c.args.p.now c.args.layout.now c.args.ops.now c.changes.new.ops c.args.compiled.now c.args.trail.now c.args.boxes.now c.args.running.now c.requires.ready c.pool.ensures.pinned_live c.changes.ensures.stays c.changes.ensures.made

pub put-requires-clause-known : goal.put-requires-clause-known
put-requires-clause-known c = subst (λ (xs : List Side). All (λ (s : Side). s.var.0 < length c.args.running.now) xs) (sym c.as_slice.ensures.value) (sides_known c.laws.ensures c.args.p.now c.args.layout.now c.args.ops.now c.changes.new.ops c.args.compiled.now c.args.trail.now c.args.boxes.now c.args.running.now c.requires.ready c.pool.ensures.pinned_live c.changes.ensures.stays c.changes.ensures.made c.newest-entry.result c.newest-entry.ensures c.in_ok-sides.sides.items (subst (λ (rs : List Ref). AreChanges c.args.layout.now (table c.args.ops.now.arena) (table c.changes.new.ops.arena) rs (resolvent_of c.args.p.now c.args.layout.now (table c.args.ops.now.arena) c.args.boxes.now c.args.trail.now c.newest-entry.result rs) c.in_ok-sides.sides.items) c.refs.ensures c.in_ok-sides.ensures.sides))

pub put-requires-clause-live : goal.put-requires-clause-live
put-requires-clause-live c = subst (λ (xs : List Side). All (λ (s : Side). IsLive (table c.changes.new.ops.arena) s.set) xs) (sym c.as_slice.ensures.value) (sides_live c.laws.ensures c.args.p.now c.args.layout.now c.args.ops.now c.changes.new.ops c.args.compiled.now c.args.trail.now c.args.boxes.now c.args.running.now c.requires.ready c.pool.ensures.pinned_live c.changes.ensures.stays c.changes.ensures.made c.newest-entry.result c.newest-entry.ensures c.in_ok-sides.sides.items (subst (λ (rs : List Ref). AreChanges c.args.layout.now (table c.args.ops.now.arena) (table c.changes.new.ops.arena) rs (resolvent_of c.args.p.now c.args.layout.now (table c.args.ops.now.arena) c.args.boxes.now c.args.trail.now c.newest-entry.result rs) c.in_ok-sides.sides.items) c.refs.ensures c.in_ok-sides.ensures.sides))

pub put-requires-clause-held : goal.put-requires-clause-held
put-requires-clause-held c = try_held c.laws.ensures c.args.p.now c.args.layout.now c.args.ops.now c.changes.new.ops c.args.compiled.now c.args.trail.now c.args.boxes.now c.args.running.now c.requires.ready c.pool.ensures.pinned_live c.changes.ensures.stays c.changes.ensures.made

pub returns-in_err-put-clause-left : goal.returns-in_err-put-clause-left
returns-in_err-put-clause-left c = put_leaves c.laws.ensures c.args.p.now c.args.layout.now c.args.ops.now c.changes.new.ops c.args.compiled.now c.args.trail.now c.args.boxes.now c.args.running.now c.requires.ready c.pool.ensures.pinned_live c.changes.ensures.stays c.changes.ensures.made c.put.new.ops c.put.new.running (ap (λ (s : PoolState). s.arena) c.put.ensures.only) c.put.ensures.moved

pub returns-clause-left : goal.returns-clause-left
returns-clause-left c = put_leaves c.laws.ensures c.args.p.now c.args.layout.now c.args.ops.now c.changes.new.ops c.args.compiled.now c.args.trail.now c.args.boxes.now c.args.running.now c.requires.ready c.pool.ensures.pinned_live c.changes.ensures.stays c.changes.ensures.made c.put.new.ops c.put.new.running (ap (λ (s : PoolState). s.arena) c.put.ensures.only) c.put.ensures.moved

pub returns-clause-resolved : goal.returns-clause-resolved
returns-clause-resolved c =
    try_resolved c.laws.ensures c.args.p.now c.args.layout.now c.args.ops.now c.changes.new.ops c.args.compiled.now c.args.trail.now c.args.boxes.now c.args.running.now c.requires.ready c.pool.ensures.pinned_live c.changes.ensures.stays c.changes.ensures.made c.newest-entry.result c.newest-entry.ensures c.in_ok-sides.sides.items (subst (λ (rs : List Ref). AreChanges c.args.layout.now (table c.args.ops.now.arena) (table c.changes.new.ops.arena) rs (resolvent_of c.args.p.now c.args.layout.now (table c.args.ops.now.arena) c.args.boxes.now c.args.trail.now c.newest-entry.result rs) c.in_ok-sides.sides.items) c.refs.ensures c.in_ok-sides.ensures.sides)
    c.put.new.ops c.put.new.running (ap (λ (s : PoolState). s.arena) c.put.ensures.only) (c.in_ok-put.ensures.put ∙ ap (λ (xs : List Side). put_sides xs c.args.running.now) c.as_slice.ensures.value)
