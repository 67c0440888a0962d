use Rattle.std.proofs.Common.{◌<◌, List, [], ◌++◌, length, sym, ap, ◌∙◌, subst}
use Rattle.std.specs.List.{All}
use Rattle.std.proofs.lemmas.Result.{on_ok_weaker}
use Rattle.set_meaning.specs.declared.problems.VarId.{VarId}
use Rattle.diagram_arena.specs.declared.nodes.Ref.{Ref}
use Rattle.diagram_arena.specs.Table.{IsLive}
use Rattle.diagram_arena.specs.Arena.{table}
use Rattle.node_reclaim.specs.Pool.{PoolState}
use Rattle.pin_lists.specs.Units.{Moves}
use Rattle.pin_lists.proofs.Leaving.{moves_then, only_then}
use Rattle.box_clauses.specs.declared.sides.Side.{Side}
use Rattle.running_boxes.specs.declared.beginning.Conflict.TheVariants as conflict
use Rattle.running_boxes.specs.Running.{IsConflictOf, IsRunning, box_of_conflict}
use Rattle.running_boxes.specs.Work.{put_sides, domain_sides}
use Rattle.running_boxes.proofs.Starting.{start_live, domains_live, domains_long, held_first, scope_there, scope_known, box_known, box_live, begun_by_constraint, begun_by_box}
use Rattle.running_boxes.proofs.beginning.begin.Goals as goal

pub hold_all-requires : goal.hold_all-requires
hold_all-requires c = subst (All (IsLive (table c.args.ops.now.arena))) (sym c.start.ensures) (start_live c.laws.ensures c.args.p.now c.args.layout.now (table c.args.ops.now.arena) c.args.compiled.now c.args.trail.now c.args.boxes.now c.requires.compiled c.requires.readable)

pub returns-in_err-hold_all-clause-moved : goal.returns-in_err-hold_all-clause-moved
returns-in_err-hold_all-clause-moved c = subst (λ (rs : List Ref). Moves c.args.ops.now c.hold_all.new.ops rs c.hold_all.new.self) c.requires.none c.hold_all.ensures.moved

pub scope-requires : goal.scope-requires
scope-requires c = scope_there c.laws.ensures c.args.p.now c.args.layout.now (table c.args.ops.now.arena) c.args.compiled.now c.args.trail.now c.args.boxes.now c.requires.compiled c.requires.readable c.in-Constraint.c (subst (IsConflictOf c.args.p.now c.args.boxes.now) c.in-Constraint.is c.requires.known)

pub put_domains-requires-clause-known : goal.put_domains-requires-clause-known
put_domains-requires-clause-known c = subst (λ (rs : List Ref). All (λ (v : VarId). v.0 < length rs) c.scope.result.now) (sym (c.in_ok-hold_all.ensures.listed ∙ ap (λ rs. rs ++ c.start.result.now) c.requires.none ∙ c.start.ensures)) (scope_known c.laws.ensures c.args.p.now c.args.layout.now (table c.args.ops.now.arena) c.args.compiled.now c.args.trail.now c.args.boxes.now c.requires.compiled c.requires.readable c.in-Constraint.c c.scope.result.now c.scope.ensures)

pub put_domains-requires-clause-long : goal.put_domains-requires-clause-long
put_domains-requires-clause-long c = ap length c.domains.ensures ∙ domains_long c.laws.ensures c.args.p.now c.args.layout.now (table c.args.ops.now.arena) c.args.compiled.now c.args.trail.now c.args.boxes.now c.requires.compiled c.requires.readable ∙ sym (ap length (c.in_ok-hold_all.ensures.listed ∙ ap (λ rs. rs ++ c.start.result.now) c.requires.none ∙ c.start.ensures))

pub put_domains-requires-clause-live : goal.put_domains-requires-clause-live
put_domains-requires-clause-live c =
    subst (λ (s : PoolState). All (IsLive (table s.arena)) c.domains.result.now) (sym c.hold_all.ensures.only) (subst (All (IsLive (table c.args.ops.now.arena))) (sym c.domains.ensures) (domains_live c.laws.ensures c.args.p.now c.args.layout.now (table c.args.ops.now.arena) c.args.compiled.now c.args.trail.now c.args.boxes.now c.requires.compiled c.requires.readable))

pub put_domains-requires-clause-held : goal.put_domains-requires-clause-held
put_domains-requires-clause-held c = held_first c.args.ops.now c.hold_all.new.ops c.args.running.now c.hold_all.new.self c.requires.none c.hold_all.ensures.moved

pub sides-requires : goal.sides-requires
sides-requires c = subst (IsConflictOf c.args.p.now c.args.boxes.now) c.in-Box.is c.requires.known

pub put-requires-clause-known : goal.put-requires-clause-known
put-requires-clause-known c = subst (λ (rs : List Ref). All (λ (s : Side). s.var.0 < length rs) c.sides.result.now) (sym (c.in_ok-hold_all.ensures.listed ∙ ap (λ rs. rs ++ c.start.result.now) c.requires.none ∙ c.start.ensures)) (box_known c.laws.ensures c.args.p.now c.args.layout.now (table c.args.ops.now.arena) c.args.compiled.now c.args.trail.now c.args.boxes.now c.requires.compiled c.requires.readable c.in-Box.b (subst (IsConflictOf c.args.p.now c.args.boxes.now) c.in-Box.is c.requires.known) c.sides.result.now c.sides.ensures)

pub put-requires-clause-live : goal.put-requires-clause-live
put-requires-clause-live c = subst (λ (s : PoolState). All (λ (x : Side). IsLive (table s.arena) x.set) c.sides.result.now) (sym c.hold_all.ensures.only) (box_live c.laws.ensures c.args.p.now c.args.layout.now (table c.args.ops.now.arena) c.args.compiled.now c.args.trail.now c.args.boxes.now c.requires.compiled c.requires.readable c.in-Box.b (subst (IsConflictOf c.args.p.now c.args.boxes.now) c.in-Box.is c.requires.known) c.sides.result.now c.sides.ensures)

pub put-requires-clause-held : goal.put-requires-clause-held
put-requires-clause-held c = held_first c.args.ops.now c.hold_all.new.ops c.args.running.now c.hold_all.new.self c.requires.none c.hold_all.ensures.moved

pub returns-in-Constraint-clause-begun : goal.returns-in-Constraint-clause-begun
returns-in-Constraint-clause-begun c =
    on_ok_weaker c.put_domains.result
    (λ put. subst (λ (s : PoolState). IsRunning c.args.layout.now (table s.arena) (box_of_conflict c.args.p.now c.args.layout.now (table c.args.ops.now.arena) c.args.boxes.now c.args.trail.now.domains c.args.conflict) c.put_domains.new.running) (sym (only_then c.args.ops.now c.hold_all.new.ops c.put_domains.new.ops c.hold_all.ensures.only c.put_domains.ensures.only))
    (subst (λ k. IsRunning c.args.layout.now (table c.args.ops.now.arena) (box_of_conflict c.args.p.now c.args.layout.now (table c.args.ops.now.arena) c.args.boxes.now c.args.trail.now.domains k) c.put_domains.new.running) (sym c.in-Constraint.is)
    (subst (IsRunning c.args.layout.now (table c.args.ops.now.arena) (box_of_conflict c.args.p.now c.args.layout.now (table c.args.ops.now.arena) c.args.boxes.now c.args.trail.now.domains (conflict.Constraint c.in-Constraint.c)))
    (sym (put ∙ ap (λ (ds : List Ref). put_sides (domain_sides ds c.scope.result.now) c.hold_all.new.self) c.domains.ensures ∙ ap (put_sides (domain_sides c.args.trail.now.domains c.scope.result.now)) (c.in_ok-hold_all.ensures.listed ∙ ap (λ rs. rs ++ c.start.result.now) c.requires.none ∙ c.start.ensures)))
    (begun_by_constraint c.laws.ensures c.args.p.now c.args.layout.now (table c.args.ops.now.arena) c.args.compiled.now c.args.trail.now c.args.boxes.now c.requires.compiled c.requires.readable c.in-Constraint.c c.scope.result.now c.scope.ensures))))
    c.put_domains.ensures.put

pub returns-in-Constraint-clause-moved : goal.returns-in-Constraint-clause-moved
returns-in-Constraint-clause-moved c = (moves_then c.args.ops.now c.hold_all.new.ops c.put_domains.new.ops [] c.hold_all.new.self c.put_domains.new.running (subst (λ (rs : List Ref). Moves c.args.ops.now c.hold_all.new.ops rs c.hold_all.new.self) c.requires.none c.hold_all.ensures.moved) c.put_domains.ensures.moved)

pub returns-in-Constraint-clause-only : goal.returns-in-Constraint-clause-only
returns-in-Constraint-clause-only c = (only_then c.args.ops.now c.hold_all.new.ops c.put_domains.new.ops c.hold_all.ensures.only c.put_domains.ensures.only)

pub returns-in-Box-clause-begun : goal.returns-in-Box-clause-begun
returns-in-Box-clause-begun c =
    on_ok_weaker c.put.result
    (λ put. subst (λ (s : PoolState). IsRunning c.args.layout.now (table s.arena) (box_of_conflict c.args.p.now c.args.layout.now (table c.args.ops.now.arena) c.args.boxes.now c.args.trail.now.domains c.args.conflict) c.put.new.running) (sym (only_then c.args.ops.now c.hold_all.new.ops c.put.new.ops c.hold_all.ensures.only c.put.ensures.only))
    (subst (λ k. IsRunning c.args.layout.now (table c.args.ops.now.arena) (box_of_conflict c.args.p.now c.args.layout.now (table c.args.ops.now.arena) c.args.boxes.now c.args.trail.now.domains k) c.put.new.running) (sym c.in-Box.is)
    (subst (IsRunning c.args.layout.now (table c.args.ops.now.arena) (box_of_conflict c.args.p.now c.args.layout.now (table c.args.ops.now.arena) c.args.boxes.now c.args.trail.now.domains (conflict.Box c.in-Box.b)))
    (sym (put ∙ ap (put_sides c.sides.result.now) (c.in_ok-hold_all.ensures.listed ∙ ap (λ rs. rs ++ c.start.result.now) c.requires.none ∙ c.start.ensures))) (begun_by_box c.laws.ensures c.args.p.now c.args.layout.now (table c.args.ops.now.arena) c.args.compiled.now c.args.trail.now c.args.boxes.now c.requires.compiled c.requires.readable c.in-Box.b (subst (IsConflictOf c.args.p.now c.args.boxes.now) c.in-Box.is c.requires.known) c.sides.result.now c.sides.ensures))))
    c.put.ensures.put

pub returns-in-Box-clause-moved : goal.returns-in-Box-clause-moved
returns-in-Box-clause-moved c = (moves_then c.args.ops.now c.hold_all.new.ops c.put.new.ops [] c.hold_all.new.self c.put.new.running (subst (λ (rs : List Ref). Moves c.args.ops.now c.hold_all.new.ops rs c.hold_all.new.self) c.requires.none c.hold_all.ensures.moved) c.put.ensures.moved)

pub returns-in-Box-clause-only : goal.returns-in-Box-clause-only
returns-in-Box-clause-only c = (only_then c.args.ops.now c.hold_all.new.ops c.put.new.ops c.hold_all.ensures.only c.put.ensures.only)
