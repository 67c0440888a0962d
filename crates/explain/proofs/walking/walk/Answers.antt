use Rattle.std.proofs.Common.{Err, sym, ap, ◌∙◌, subst}
use Rattle.diagram_arena.specs.Arena.{table}
use Rattle.node_reclaim.specs.Pool.{PoolState}
use Rattle.exact_steps.specs.Domains.{family}
use Rattle.propagators.specs.Compiled.{AreInitialDomains}
use Rattle.explain.proofs.Turning.{passed_on}
use Rattle.explain.proofs.Onward.{under_way_begins, held_now, compiled_now, way_on, left_on, under_way_on, at_pool, none_left, none_found, found_within}
use Rattle.explain.proofs.walking.walk.Goals as goal

pub loop-place-init : goal.loop-place-init
loop-place-init c =
    under_way_begins c.args.p.now c.args.layout.now c.args.ops.now c.args.boxes.now c.args.trail.now c.args.running.now c.going.ensures c.pool.ensures.pinned_live c.pool.ensures.reduced c.requires.trail c.requires.running

pub newest-requires-clause-start : goal.newest-requires-clause-start
newest-requires-clause-start c =
    subst (AreInitialDomains c.args.layout.now (table c.loop-place.ops.arena)) (sym c.start.ensures) (compiled_now c.args.p.now c.args.layout.now c.args.ops.now c.args.boxes.now c.args.trail.now c.args.running.now c.loop-place.ops c.loop-place.trail c.loop-place.running
    c.loop-place.invariant c.staying.ensures c.args.compiled.now c.requires.held c.requires.compiled).start

pub returns-in-None-clause-walked : goal.returns-in-None-clause-walked
returns-in-None-clause-walked c =
    none_left c.args.p.now c.going.ensures c.stopping.ensures c.args.layout.now (table c.args.ops.now.arena) (table c.newest.new.ops.arena) c.args.boxes.now c.args.trail.now c.loop-place.trail (family c.args.layout.now (table c.args.ops.now.arena) c.args.running.now) c.loop-place.running
    (at_pool c.args.p.now c.args.layout.now c.args.ops.now c.loop-place.ops c.newest.new.ops c.args.boxes.now c.args.trail.now c.loop-place.trail c.args.running.now c.loop-place.running (c.newest.ensures.same) c.loop-place.invariant).way c.requires.conflict
    (none_found c.args.layout.now (table c.loop-place.ops.arena) c.refs.result.now c.loop-place.trail.entries c.in_ok-newest.field-0 c.in_ok-newest.ensures.newest (table c.newest.new.ops.arena) c.loop-place.running c.in-None.is (ap (λ (s : PoolState). table s.arena) c.newest.ensures.same) c.refs.ensures)

pub stops-requires-clause-start : goal.stops-requires-clause-start
stops-requires-clause-start c =
    subst (AreInitialDomains c.args.layout.now (table c.newest.new.ops.arena)) (sym c.start-in-Some.ensures) (compiled_now c.args.p.now c.args.layout.now c.args.ops.now c.args.boxes.now c.args.trail.now c.args.running.now c.newest.new.ops c.loop-place.trail c.loop-place.running
    (at_pool c.args.p.now c.args.layout.now c.args.ops.now c.loop-place.ops c.newest.new.ops c.args.boxes.now c.args.trail.now c.loop-place.trail c.args.running.now c.loop-place.running (c.newest.ensures.same) c.loop-place.invariant) c.staying.ensures c.args.compiled.now c.requires.held c.requires.compiled).start

pub entry-requires : goal.entry-requires
entry-requires c =
    found_within c.args.layout.now (table c.loop-place.ops.arena) c.refs.result.now c.loop-place.trail.entries c.in_ok-newest.field-0 c.in_ok-newest.ensures.newest c.in-Some.place c.in-Some.is

pub beyond-requires-clause-compiled : goal.beyond-requires-clause-compiled
beyond-requires-clause-compiled c =
    compiled_now c.args.p.now c.args.layout.now c.args.ops.now c.args.boxes.now c.args.trail.now c.args.running.now c.stops.new.ops c.loop-place.trail c.loop-place.running
    (at_pool c.args.p.now c.args.layout.now c.args.ops.now c.loop-place.ops c.stops.new.ops c.args.boxes.now c.args.trail.now c.loop-place.trail c.args.running.now c.loop-place.running (c.stops.ensures.same ∙ c.newest.ensures.same) c.loop-place.invariant) c.staying.ensures c.args.compiled.now c.requires.held c.requires.compiled

pub beyond-requires-clause-held : goal.beyond-requires-clause-held
beyond-requires-clause-held c =
    held_now c.args.p.now c.args.layout.now c.args.ops.now c.args.boxes.now c.args.trail.now c.args.running.now c.stops.new.ops c.loop-place.trail c.loop-place.running
    (at_pool c.args.p.now c.args.layout.now c.args.ops.now c.loop-place.ops c.stops.new.ops c.args.boxes.now c.args.trail.now c.loop-place.trail c.args.running.now c.loop-place.running (c.stops.ensures.same ∙ c.newest.ensures.same) c.loop-place.invariant) c.args.compiled.now c.requires.held

pub loop-place-preserved : goal.loop-place-preserved
loop-place-preserved c =
    under_way_on c.args.p.now c.args.layout.now c.args.ops.now c.args.boxes.now c.args.trail.now c.args.running.now c.stops.new.ops c.loop-place.trail c.loop-place.running
    (at_pool c.args.p.now c.args.layout.now c.args.ops.now c.loop-place.ops c.stops.new.ops c.args.boxes.now c.args.trail.now c.loop-place.trail c.args.running.now c.loop-place.running (c.stops.ensures.same ∙ c.newest.ensures.same) c.loop-place.invariant) c.beyond.new.ops c.beyond.new.trail c.beyond.new.running c.in_ok-beyond-in-Some.ensures.way c.beyond.ensures.left

pub returns-in_err-beyond-in-Some-clause-left : goal.returns-in_err-beyond-in-Some-clause-left
returns-in_err-beyond-in-Some-clause-left c =
    left_on c.args.p.now c.args.layout.now c.args.ops.now c.args.boxes.now c.args.trail.now c.args.running.now c.stops.new.ops c.loop-place.trail c.loop-place.running
    (at_pool c.args.p.now c.args.layout.now c.args.ops.now c.loop-place.ops c.stops.new.ops c.args.boxes.now c.args.trail.now c.loop-place.trail c.args.running.now c.loop-place.running (c.stops.ensures.same ∙ c.newest.ensures.same) c.loop-place.invariant) c.beyond.new.ops c.beyond.new.trail c.beyond.new.running c.beyond.ensures.left

pub returns-in_err-beyond-in-Some-clause-way : goal.returns-in_err-beyond-in-Some-clause-way
returns-in_err-beyond-in-Some-clause-way c =
    passed_on c.from_residual-in_err-beyond-in-Some.result c.in_err-beyond-in-Some.field-0.0 _ c.from_residual-in_err-beyond-in-Some.ensures.1 (λ e. way_on c.args.p.now c.args.layout.now c.args.ops.now c.args.boxes.now c.args.trail.now c.args.running.now c.stops.new.ops c.loop-place.trail c.loop-place.running
    (at_pool c.args.p.now c.args.layout.now c.args.ops.now c.loop-place.ops c.stops.new.ops c.args.boxes.now c.args.trail.now c.loop-place.trail c.args.running.now c.loop-place.running (c.stops.ensures.same ∙ c.newest.ensures.same) c.loop-place.invariant) (table c.beyond.new.ops.arena) c.beyond.new.trail c.beyond.new.running (c.in_err-beyond-in-Some.ensures.full_way (ap Err e)))
