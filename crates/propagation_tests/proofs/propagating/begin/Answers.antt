use Rattle.std.proofs.Common.{◌≡◌, List, sym, ap, ◌∙◌, subst}
use Rattle.diagram_arena.specs.declared.nodes.Ref.{Ref}
use Rattle.diagram_arena.specs.Arena.{table}
use Rattle.node_reclaim.specs.Pool.{PoolState}
use Rattle.node_reclaim.specs.Holders.{Gains}
use Rattle.search_state.specs.Readings.{IsTrailOf}
use Rattle.propagation_tests.proofs.Filling.{start_live, begun_with, trail_begun, held_begun}
use Rattle.propagation_tests.proofs.propagating.begin.Goals as goal

pub new-requires : goal.new-requires
new-requires c = start_live c.args.layout.now (table c.args.ops.now.arena) c.start.result.now c.args.compiled.now.start c.start.ensures (c.initial_domains_are_domains.ensures.domains c.args.layout.now (table c.args.ops.now.arena) c.args.compiled.now.start c.requires.filled.compiled.start)

pub run-done-requires-clause-trail : goal.run-done-requires-clause-trail
run-done-requires-clause-trail c =
    subst (λ (s : PoolState). IsTrailOf c.args.p.now c.args.layout.now (table s.arena) c.args.store.now c.in_ok-trail.trail) (sym c.new.ensures.only)
    (trail_begun c.args.p.now c.args.layout.now (table c.args.ops.now.arena) c.args.store.now c.args.compiled.now.start c.in_ok-trail.trail (c.in_ok-trail.ensures.begun ∙ ap begun_with c.start.ensures) (c.initial_domains_are_domains.ensures.domains c.args.layout.now (table c.args.ops.now.arena) c.args.compiled.now.start c.requires.filled.compiled.start)
    (c.initial_domains_are_the_initial_family.ensures c.args.p.now c.args.layout.now (table c.args.ops.now.arena) c.args.compiled.now.start c.requires.filled.compiled.kinds c.requires.filled.compiled.start.long
    (λ v r e x h. (c.requires.filled.compiled.start.each v r e).all x h))
    c.requires.filled.boxes)

pub run-done-requires-clause-held : goal.run-done-requires-clause-held
run-done-requires-clause-held c =
    held_begun c.args.ops.now c.new.new.ops c.args.compiled.now c.args.store.now c.in_ok-trail.trail (c.in_ok-trail.ensures.begun ∙ ap begun_with c.start.ensures) c.requires.filled.pinned
    (subst (λ (rs : List Ref). Gains c.args.ops.now c.new.new.ops rs) c.start.ensures c.in_ok-trail.ensures.gained)
