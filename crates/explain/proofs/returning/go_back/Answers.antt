use Rattle.std.proofs.Common.{◌++◌, List, Option, sym, subst}
use Rattle.std.specs.Prelude.{MatchOption}
use Rattle.set_meaning.specs.declared.problems.VarId.{VarId}
use Rattle.diagram_arena.specs.declared.nodes.Ref.{Ref}
use Rattle.diagram_arena.specs.Arena.{table}
use Rattle.node_reclaim.specs.Pool.{PoolState}
use Rattle.search_rules.specs.Walk.{IsNewestOther}
use Rattle.exact_steps.specs.Domains.{family}
use Rattle.propagators.specs.Compiled.{pinned_by, AreInitialDomains}
use Rattle.domain_trail.specs.Trail.{held}
use Rattle.box_clauses.specs.Stored.{stored_sets}
use Rattle.search_state.specs.Readings.{entries_of}
use Rattle.running_boxes.specs.Nodes.{IsOfVariable}
use Rattle.explain.specs.Work.{IsPassed, IsStop}
use Rattle.explain.specs.Returning.{IsTurned}
use Rattle.explain.proofs.Frames.{compiled_beside, trail_after, trail_moved}
use Rattle.explain.proofs.Derived.{start_later, turned}
use Rattle.explain.proofs.returning.go_back.Goals as goal

pub back_from-requires-clause-start : goal.back_from-requires-clause-start
back_from-requires-clause-start c =
    let k = c.args.compiled.now in
    let hs = held c.args.trail.now in
    let rs = c.args.running.now in
    subst (AreInitialDomains c.args.layout.now (table c.walk.new.ops.arena)) (sym c.start.ensures)
    (start_later c.compiled_stays.ensures.pinned c.args.layout.now c.args.p.now (IsOfVariable c.args.layout.now) c.args.ops.now c.walk.new.ops k (hs ++ rs) (held c.walk.new.trail ++ c.walk.new.running) c.requires.compiled
    (compiled_beside c.args.ops.now (pinned_by k) hs (stored_sets c.args.boxes.now) rs c.requires.held) c.walk.ensures.left)

pub back_from-requires-clause-held : goal.back_from-requires-clause-held
back_from-requires-clause-held c =
    trail_after c.args.ops.now (pinned_by c.args.compiled.now) (held c.args.trail.now) (stored_sets c.args.boxes.now) c.args.running.now c.requires.held c.walk.new.ops (held c.walk.new.trail) c.walk.new.running c.walk.ensures.left.pins

pub returns-in_err-level-in-Some-clause-left : goal.returns-in_err-level-in-Some-clause-left
returns-in_err-level-in-Some-clause-left c =
    trail_moved (IsOfVariable c.args.layout.now) c.args.ops.now c.walk.new.ops c.back_from.new.ops (held c.args.trail.now ++ c.args.running.now) (held c.walk.new.trail) c.walk.new.running c.walk.ensures.left
    c.back_from.ensures.only (held c.back_from.new.trail) c.back_from.ensures.moved

pub returns-in_ok-level-in-Some-clause-left : goal.returns-in_ok-level-in-Some-clause-left
returns-in_ok-level-in-Some-clause-left c =
    trail_moved (IsOfVariable c.args.layout.now) c.args.ops.now c.walk.new.ops c.back_from.new.ops (held c.args.trail.now ++ c.args.running.now) (held c.walk.new.trail) c.walk.new.running c.walk.ensures.left
    c.back_from.ensures.only (held c.back_from.new.trail) c.back_from.ensures.moved

pub returns-in_ok-level-in-Some-clause-derived : goal.returns-in_ok-level-in-Some-clause-derived
returns-in_ok-level-in-Some-clause-derived c =
    let p = c.args.p.now in
    let l = c.args.layout.now in
    let t = table c.args.ops.now.arena in
    let u = table c.walk.new.ops.arena in
    let stored = c.args.boxes.now in
    let old = c.args.trail.now in
    let now = c.walk.new.trail in
    let first = family l t c.args.running.now in
    let rs = c.walk.new.running in
    let v = c.in-Some.var in
    let k = c.in_ok-level-in-Some.level in
    let stop : IsStop p l t u stored old now first rs v
    = subst (λ (o : Option VarId). MatchOption o (IsPassed p l t u stored old now first rs) (IsStop p l t u stored old now first rs)) c.in-Some.is c.in_ok-walk.ensures.walked in
    let newest : IsNewestOther (entries_of l u stored now.entries) (family l u rs) v.0 k
    = subst (λ (qs : List Ref). IsNewestOther (entries_of l u stored now.entries) (family l u qs) v.0 k) c.refs.ensures (c.in_ok-level-in-Some.ensures.level stored) in
    subst (λ (s : PoolState). IsTurned p l t (table s.arena) stored old c.back_from.new.trail rs (record { var = v; level = k })) (sym c.back_from.ensures.only)
    (turned p l t u stored old now first c.requires.trail c.requires.conflict c.exclusion_laws.ensures rs c.turn_laws.ensures v stop k newest c.back_from.new.trail c.in_ok-level-in-Some.ensures.undone)
