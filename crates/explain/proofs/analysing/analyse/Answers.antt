use Rattle.std.proofs.Common.{◌++◌, [], List, Option, Ok, Err, sym, ap, ◌∙◌, subst}
use Rattle.std.specs.Prelude.{IfOk, MatchOption}
use Rattle.std.specs.declared.result.Result.{Result}
use Rattle.diagram_arena.specs.declared.nodes.Ref.{Ref}
use Rattle.diagram_arena.specs.declared.nodes.Stop.{Stop}
use Rattle.diagram_arena.specs.Arena.{table}
use Rattle.node_reclaim.specs.Pool.{PoolState}
use Rattle.node_reclaim.specs.Holders.{AreHeld}
use Rattle.propagators.specs.Compiled.{AreInitialDomains}
use Rattle.domain_trail.specs.Trail.{held}
use Rattle.box_clauses.specs.Stored.{stored_sets}
use Rattle.box_clauses.specs.Sides.{sets_of}
use Rattle.running_boxes.specs.Running.{box_of_conflict}
use Rattle.running_boxes.specs.Nodes.{IsOfVariable}
use Rattle.explain.specs.declared.returning.BackTo.{BackTo}
use Rattle.explain.specs.Walks.{IsAsserting, IsStoppedAt}
use Rattle.explain.specs.Work.{IsOnWalk, IsPassed}
use Rattle.explain.specs.Returning.{IsTurned}
use Rattle.explain.proofs.Frames.{compiled_first, start_after, running_after, running_moved, spent_moves}
use Rattle.explain.proofs.Derived.{holds_excluded, all_inside, start_later}
use Rattle.explain.proofs.Endings.{asserting, stopped_at, full_still, reached_or_made_still}
use Rattle.explain.proofs.analysing.analyse.Goals as goal

pub release-requires : goal.release-requires
release-requires c = running_after c.args.ops.now c.derive.new.ops c.args.compiled.now.start c.args.compiled.now.diagrams (held c.args.trail.now) (stored_sets c.args.boxes.now) (held c.derive.new.trail) c.derive.new.running c.requires.held c.derive.ensures.left.pins

pub release-requires-in-Err-Memory : goal.release-requires-in-Err-Memory
release-requires-in-Err-Memory c = running_after c.args.ops.now c.derive.new.ops c.args.compiled.now.start c.args.compiled.now.diagrams (held c.args.trail.now) (stored_sets c.args.boxes.now) (held c.derive.new.trail) c.derive.new.running c.requires.held c.derive.ensures.left.pins

pub take_sides-requires-clause-start : goal.take_sides-requires-clause-start
take_sides-requires-clause-start c =
    subst (AreInitialDomains c.args.layout.now (table c.derive.new.ops.arena)) (sym c.start.ensures)
    (start_later c.compiled_stays.ensures.pinned c.args.layout.now c.args.p.now (IsOfVariable c.args.layout.now) c.args.ops.now c.derive.new.ops c.args.compiled.now (held c.args.trail.now) (held c.derive.new.trail ++ c.derive.new.running) c.requires.compiled
    (compiled_first c.args.ops.now c.derive.new.ops c.args.compiled.now.start c.args.compiled.now.diagrams (held c.args.trail.now) (stored_sets c.args.boxes.now) (held c.derive.new.trail) c.derive.new.running c.requires.held c.derive.ensures.left.pins)
    c.derive.ensures.left)

pub take_sides-requires-clause-held : goal.take_sides-requires-clause-held
take_sides-requires-clause-held c =
    subst (λ (st : List Ref). AreHeld c.derive.new.ops (st ++ c.derive.new.running)) (sym c.start.ensures)
    (start_after c.args.ops.now c.derive.new.ops c.args.compiled.now.start c.args.compiled.now.diagrams (held c.args.trail.now) (stored_sets c.args.boxes.now) (held c.derive.new.trail) c.derive.new.running c.requires.held c.derive.ensures.left.pins)

pub take_sides-requires-in-Err-Full-clause-start : goal.take_sides-requires-in-Err-Full-clause-start
take_sides-requires-in-Err-Full-clause-start c =
    subst (AreInitialDomains c.args.layout.now (table c.derive.new.ops.arena)) (sym c.start-in-Err-Full.ensures)
    (start_later c.compiled_stays.ensures.pinned c.args.layout.now c.args.p.now (IsOfVariable c.args.layout.now) c.args.ops.now c.derive.new.ops c.args.compiled.now (held c.args.trail.now) (held c.derive.new.trail ++ c.derive.new.running) c.requires.compiled
    (compiled_first c.args.ops.now c.derive.new.ops c.args.compiled.now.start c.args.compiled.now.diagrams (held c.args.trail.now) (stored_sets c.args.boxes.now) (held c.derive.new.trail) c.derive.new.running c.requires.held c.derive.ensures.left.pins)
    c.derive.ensures.left)

pub take_sides-requires-in-Err-Full-clause-held : goal.take_sides-requires-in-Err-Full-clause-held
take_sides-requires-in-Err-Full-clause-held c =
    subst (λ (st : List Ref). AreHeld c.derive.new.ops (st ++ c.derive.new.running)) (sym c.start-in-Err-Full.ensures)
    (start_after c.args.ops.now c.derive.new.ops c.args.compiled.now.start c.args.compiled.now.diagrams (held c.args.trail.now) (stored_sets c.args.boxes.now) (held c.derive.new.trail) c.derive.new.running c.requires.held c.derive.ensures.left.pins)

pub returns-in-Ok-None-clause-pinned : goal.returns-in-Ok-None-clause-pinned
returns-in-Ok-None-clause-pinned c =
    running_moved (IsOfVariable c.args.layout.now) c.args.ops.now c.derive.new.ops c.release.new.ops (held c.args.trail.now) (held c.derive.new.trail) c.derive.new.running c.derive.ensures.left
    c.release.ensures.only [] (spent_moves c.derive.new.ops c.release.new.ops c.derive.new.running c.release.ensures)

pub returns-in-Ok-clause-pinned : goal.returns-in-Ok-clause-pinned
returns-in-Ok-clause-pinned c =
    running_moved (IsOfVariable c.args.layout.now) c.args.ops.now c.derive.new.ops c.take_sides.new.ops (held c.args.trail.now) (held c.derive.new.trail) c.derive.new.running c.derive.ensures.left
    c.take_sides.ensures.only (sets_of c.in-Ok.held) c.in-Ok.ensures.moved

pub returns-in-Err-clause-held_on : goal.returns-in-Err-clause-held_on
returns-in-Err-clause-held_on c =
    running_moved (IsOfVariable c.args.layout.now) c.args.ops.now c.derive.new.ops c.take_sides.new.ops (held c.args.trail.now) (held c.derive.new.trail) c.derive.new.running c.derive.ensures.left
    c.take_sides.ensures.only [] c.in-Err.ensures.spent

pub returns-in-Ok-take_sides-clause-held_on : goal.returns-in-Ok-take_sides-clause-held_on
returns-in-Ok-take_sides-clause-held_on c =
    running_moved (IsOfVariable c.args.layout.now) c.args.ops.now c.derive.new.ops c.take_sides-in-Err-Full.new.ops (held c.args.trail.now) (held c.derive.new.trail) c.derive.new.running c.derive.ensures.left
    c.take_sides-in-Err-Full.ensures.only (sets_of c.in-Ok-take_sides.held) c.in-Ok-take_sides.ensures.moved

pub returns-in-Err-take_sides-clause-held_on : goal.returns-in-Err-take_sides-clause-held_on
returns-in-Err-take_sides-clause-held_on c =
    running_moved (IsOfVariable c.args.layout.now) c.args.ops.now c.derive.new.ops c.take_sides-in-Err-Full.new.ops (held c.args.trail.now) (held c.derive.new.trail) c.derive.new.running c.derive.ensures.left
    c.take_sides-in-Err-Full.ensures.only [] c.in-Err-take_sides.ensures.spent

pub returns-in-Err-Memory-clause-held_on : goal.returns-in-Err-Memory-clause-held_on
returns-in-Err-Memory-clause-held_on c =
    running_moved (IsOfVariable c.args.layout.now) c.args.ops.now c.derive.new.ops c.release-in-Err-Memory.new.ops (held c.args.trail.now) (held c.derive.new.trail) c.derive.new.running c.derive.ensures.left
    c.release-in-Err-Memory.ensures.only [] (spent_moves c.derive.new.ops c.release-in-Err-Memory.new.ops c.derive.new.running c.release-in-Err-Memory.ensures)

pub returns-in-Ok-clause-learned : goal.returns-in-Ok-clause-learned
returns-in-Ok-clause-learned c =
    let p = c.args.p.now in
    let l = c.args.layout.now in
    let t = table c.args.ops.now.arena in
    let u = table c.derive.new.ops.arena in
    let stored = c.args.boxes.now in
    let old = c.args.trail.now in
    let new = c.derive.new.trail in
    let rs = c.derive.new.running in
    let first = box_of_conflict p l t stored old.domains c.args.conflict in
    let to = c.in-Ok-Some.to in
    let turned : IsTurned p l t u stored old new rs to
    = subst (λ (r : Result (Option BackTo) Stop). IfOk r (λ found. MatchOption found (IsPassed p l t u stored old new first rs) (IsTurned p l t u stored old new rs)))
    (c.in-Ok-Some.is ∙ ap (λ (o : Option BackTo). Ok o) c.in-Ok-Some.field-0-is) c.derive.ensures.derived in
    subst (λ (s : PoolState). IsAsserting p l t (table s.arena) stored old new c.in-Ok.held to.var.0 to.level) (sym c.take_sides.ensures.only)
    (asserting p l t u stored old new rs c.in-Ok.held c.in-Ok.ensures.sides to turned)

pub returns-in-Ok-take_sides-clause-stopped : goal.returns-in-Ok-take_sides-clause-stopped
returns-in-Ok-take_sides-clause-stopped c =
    let p = c.args.p.now in
    let l = c.args.layout.now in
    let t = table c.args.ops.now.arena in
    let u = table c.derive.new.ops.arena in
    let stored = c.args.boxes.now in
    let old = c.args.trail.now in
    let new = c.derive.new.trail in
    let rs = c.derive.new.running in
    let first = box_of_conflict p l t stored old.domains c.args.conflict in
    let way : IsOnWalk p l t u stored old new first rs = c.derive.ensures.way (c.in-Err-Full.is ∙ ap (λ (s : Stop). Err s) c.in-Err-Full.field-0-is) in
    subst (λ (s : PoolState). IsStoppedAt p l t (table s.arena) stored old new first c.in-Ok-take_sides.held) (sym c.take_sides-in-Err-Full.ensures.only)
    (stopped_at p l t u stored old new rs c.in-Ok-take_sides.held c.in-Ok-take_sides.ensures.sides first way
    (all_inside p l t u stored old new first c.requires.trail c.requires.conflict c.exclusion_laws.ensures rs way)
    (holds_excluded p l t u stored old new first c.requires.trail c.requires.conflict c.exclusion_laws.ensures rs way))

pub returns-in-Ok-take_sides-clause-full : goal.returns-in-Ok-take_sides-clause-full
returns-in-Ok-take_sides-clause-full c = (
  full_still c.args.layout.now c.derive.new.ops c.take_sides-in-Err-Full.new.ops c.take_sides-in-Err-Full.ensures.only (c.derive.ensures.full (c.in-Err-Full.is ∙ ap (λ (s : Stop). Err s) c.in-Err-Full.field-0-is)),
  reached_or_made_still c.args.layout.now c.derive.new.ops c.take_sides-in-Err-Full.new.ops c.take_sides-in-Err-Full.ensures.only c.in-Ok-take_sides.ensures.still (c.derive.ensures.made (c.in-Err-Full.is ∙ ap (λ (s : Stop). Err s) c.in-Err-Full.field-0-is)),
)
