use Rattle.std.proofs.Common.{◌≡◌, ◌<◌, length, List, Some, sym, subst}
use Rattle.std.specs.Prelude.{slice_get}
use Rattle.std.specs.List.{All}
use Rattle.std.proofs.lemmas.Result.{IfOk-weaker}
use Rattle.set_meaning.specs.declared.problems.VarId.{VarId}
use Rattle.diagram_ops.proofs.Steps.{stays_then}
use Rattle.diagram_arena.specs.declared.nodes.Ref.{Ref}
use Rattle.diagram_arena.specs.Arena.{table}
use Rattle.node_reclaim.specs.Growth.{NewAre}
use Rattle.propagators.specs.Compiled.{AreInitialDomains}
use Rattle.box_clauses.specs.declared.sides.Side.{Side}
use Rattle.box_clauses.specs.Boxes.{IsSide}
use Rattle.running_boxes.specs.Running.{resolvent_of}
use Rattle.running_boxes.specs.Work.{AreResolved, AreChanges, IsOfResolved}
use Rattle.running_boxes.proofs.Arms.{entry_within, within_entry, entry_is_set, domain_is_set, early_removed, scope_long, scope_within, sides_told, constraint_sides, constraint_changes, constraint_made, start_grown, sets_grown}
use Rattle.running_boxes.proofs.resolving.by_constraint.Goals as goal

pub set_at-domain-requires : goal.set_at-domain-requires
set_at-domain-requires c = subst (λ (ds : List Ref). c.args.entry.var.0 < length ds) (sym c.domains-domains.ensures) (entry_within c.laws.ensures c.args.p.now c.args.layout.now c.args.ops.now c.args.compiled.now c.args.trail.now c.args.boxes.now c.args.running.now c.args.entry c.requires.ready c.requires.newest)

pub difference-requires-clause-known : goal.difference-requires-clause-known
difference-requires-clause-known c = within_entry c.laws.ensures c.args.p.now c.args.layout.now c.args.ops.now c.args.compiled.now c.args.trail.now c.args.boxes.now c.args.running.now c.args.entry c.requires.ready c.requires.newest

pub difference-requires-clause-first : goal.difference-requires-clause-first
difference-requires-clause-first c = entry_is_set c.laws.ensures c.args.p.now c.args.layout.now c.args.ops.now c.args.compiled.now c.args.trail.now c.args.boxes.now c.args.running.now c.args.entry c.requires.ready c.requires.newest

pub difference-requires-clause-second : goal.difference-requires-clause-second
difference-requires-clause-second c = domain_is_set c.laws.ensures c.args.p.now c.args.layout.now c.args.ops.now c.args.compiled.now c.args.trail.now c.args.boxes.now c.args.running.now c.args.entry c.requires.ready c.requires.newest c.set_at-domain.result (subst (λ (ds : List Ref). slice_get ds c.args.entry.var.0 ≡ Some c.set_at-domain.result) c.domains-domains.ensures c.set_at-domain.ensures)

pub returns-in_err-removed-clause-made : goal.returns-in_err-removed-clause-made
returns-in_err-removed-clause-made c = early_removed c.laws.ensures c.args.p.now c.args.layout.now c.args.ops.now c.args.compiled.now c.args.trail.now c.args.boxes.now c.args.running.now c.args.entry c.requires.ready c.requires.newest c.set_at-domain.result (subst (λ (ds : List Ref). slice_get ds c.args.entry.var.0 ≡ Some c.set_at-domain.result) c.domains-domains.ensures c.set_at-domain.ensures) (table c.difference.new.ops.arena) c.difference.ensures.parts

pub scope-requires : goal.scope-requires
scope-requires c = scope_long c.laws.ensures c.args.p.now c.args.layout.now c.args.ops.now c.args.compiled.now c.args.trail.now c.args.boxes.now c.args.running.now c.args.entry c.requires.ready c.requires.newest c.args.c c.requires.reason

pub removed_sides-requires : goal.removed_sides-requires
removed_sides-requires c = subst (λ (ds : List Ref). All (λ (v : VarId). v.0 < length ds) c.scope.result.now) (sym c.domains-domains.ensures) (scope_within c.laws.ensures c.args.p.now c.args.layout.now c.args.ops.now c.args.compiled.now c.args.trail.now c.args.boxes.now c.args.running.now c.args.entry c.requires.ready c.requires.newest c.args.c c.requires.reason c.scope.result.now c.scope.ensures c.set_at-domain.result (subst (λ (ds : List Ref). slice_get ds c.args.entry.var.0 ≡ Some c.set_at-domain.result) c.domains-domains.ensures c.set_at-domain.ensures))

pub returns-in_err-sides-clause-made : goal.returns-in_err-sides-clause-made
returns-in_err-sides-clause-made c = early_removed c.laws.ensures c.args.p.now c.args.layout.now c.args.ops.now c.args.compiled.now c.args.trail.now c.args.boxes.now c.args.running.now c.args.entry c.requires.ready c.requires.newest c.set_at-domain.result (subst (λ (ds : List Ref). slice_get ds c.args.entry.var.0 ≡ Some c.set_at-domain.result) c.domains-domains.ensures c.set_at-domain.ensures) (table c.difference.new.ops.arena) c.difference.ensures.parts

pub resolved_sides-requires-clause-start : goal.resolved_sides-requires-clause-start
resolved_sides-requires-clause-start c = subst (AreInitialDomains c.args.layout.now (table c.difference.new.ops.arena)) (sym c.start.ensures) (start_grown c.laws.ensures c.args.p.now c.args.layout.now c.args.ops.now c.args.compiled.now c.args.trail.now c.args.boxes.now c.args.running.now c.args.entry c.requires.ready c.requires.newest (table c.difference.new.ops.arena) c.difference.ensures.stays.grows)

pub resolved_sides-requires-clause-running : goal.resolved_sides-requires-clause-running
resolved_sides-requires-clause-running c = sets_grown c.laws.ensures c.args.p.now c.args.layout.now c.args.ops.now c.args.compiled.now c.args.trail.now c.args.boxes.now c.args.running.now c.args.entry c.requires.ready c.requires.newest (table c.difference.new.ops.arena) c.difference.ensures.stays.grows

pub resolved_sides-requires-clause-sides : goal.resolved_sides-requires-clause-sides
resolved_sides-requires-clause-sides c = subst (All (IsSide c.args.layout.now (table c.difference.new.ops.arena))) (sym (sides_told c.in_ok-sides.sides.items c.as_slice.result.now c.domains-domains.result.now c.args.trail.now.domains c.args.entry.var c.in_ok-removed.removed c.scope.result.now c.as_slice.ensures.value c.in_ok-sides.ensures c.domains-domains.ensures)) (constraint_sides c.laws.ensures c.args.p.now c.args.layout.now c.args.ops.now c.args.compiled.now c.args.trail.now c.args.boxes.now c.args.running.now c.args.entry c.requires.ready c.requires.newest c.args.c c.requires.reason c.scope.result.now c.scope.ensures c.set_at-domain.result (subst (λ (ds : List Ref). slice_get ds c.args.entry.var.0 ≡ Some c.set_at-domain.result) c.domains-domains.ensures c.set_at-domain.ensures) c.difference.new.ops c.difference.ensures.stays c.in_ok-removed.removed c.in_ok-removed.ensures.set)

pub returns-clause-sides : goal.returns-clause-sides
returns-clause-sides c =
    IfOk-weaker c.resolved_sides.result
    (λ resolved. AreResolved c.args.layout.now (table c.difference.new.ops.arena) (table c.resolved_sides.new.ops.arena) c.args.running.now c.args.entry.var c.as_slice.result.now resolved.items)
    (λ resolved. AreChanges c.args.layout.now (table c.args.ops.now.arena) (table c.resolved_sides.new.ops.arena) c.args.running.now (resolvent_of c.args.p.now c.args.layout.now (table c.args.ops.now.arena) c.args.boxes.now c.args.trail.now c.args.entry c.args.running.now) resolved.items)
    (λ resolved are. constraint_changes c.laws.ensures c.args.p.now c.args.layout.now c.args.ops.now c.args.compiled.now c.args.trail.now c.args.boxes.now c.args.running.now c.args.entry c.requires.ready c.requires.newest c.args.c c.requires.reason c.scope.result.now c.scope.ensures c.set_at-domain.result (subst (λ (ds : List Ref). slice_get ds c.args.entry.var.0 ≡ Some c.set_at-domain.result) c.domains-domains.ensures c.set_at-domain.ensures) c.difference.new.ops c.difference.ensures.stays c.in_ok-removed.removed c.in_ok-removed.ensures.set (table c.resolved_sides.new.ops.arena) resolved.items
    (subst (λ (xs : List Side). AreResolved c.args.layout.now (table c.difference.new.ops.arena) (table c.resolved_sides.new.ops.arena) c.args.running.now c.args.entry.var xs resolved.items) (sides_told c.in_ok-sides.sides.items c.as_slice.result.now c.domains-domains.result.now c.args.trail.now.domains c.args.entry.var c.in_ok-removed.removed c.scope.result.now c.as_slice.ensures.value c.in_ok-sides.ensures c.domains-domains.ensures) are))
    c.resolved_sides.ensures.resolved

pub returns-clause-stays : goal.returns-clause-stays
returns-clause-stays c = stays_then c.args.ops.now c.difference.new.ops c.resolved_sides.new.ops c.difference.ensures.stays c.resolved_sides.ensures.stays

pub returns-clause-made : goal.returns-clause-made
returns-clause-made c = constraint_made c.laws.ensures c.args.p.now c.args.layout.now c.args.ops.now c.args.compiled.now c.args.trail.now c.args.boxes.now c.args.running.now c.args.entry c.requires.ready c.requires.newest c.args.c c.requires.reason c.scope.result.now c.scope.ensures c.set_at-domain.result (subst (λ (ds : List Ref). slice_get ds c.args.entry.var.0 ≡ Some c.set_at-domain.result) c.domains-domains.ensures c.set_at-domain.ensures) c.difference.new.ops c.difference.ensures.stays c.in_ok-removed.removed c.in_ok-removed.ensures.set c.resolved_sides.new.ops c.resolved_sides.ensures.stays c.difference.ensures.parts
    (subst (λ (xs : List Side). NewAre (table c.difference.new.ops.arena) (table c.resolved_sides.new.ops.arena) (IsOfResolved c.args.layout.now (table c.difference.new.ops.arena) c.args.running.now c.args.entry.var xs)) (sides_told c.in_ok-sides.sides.items c.as_slice.result.now c.domains-domains.result.now c.args.trail.now.domains c.args.entry.var c.in_ok-removed.removed c.scope.result.now c.as_slice.ensures.value c.in_ok-sides.ensures c.domains-domains.ensures) c.resolved_sides.ensures.made)
