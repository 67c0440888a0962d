use Rattle.std.proofs.Common.{Err, ap, ◌∙◌, subst}
use Rattle.std.proofs.lemmas.Result.{on_ok_weaker}
use Rattle.diagram_arena.specs.declared.nodes.Stop.{Stop}
use Rattle.diagram_arena.specs.Arena.{table}
use Rattle.node_reclaim.specs.Pool.{PoolState}
use Rattle.pin_lists.proofs.Leaving.{units_begun}
use Rattle.running_boxes.specs.Running.{IsResolved}
use Rattle.running_boxes.specs.Nodes.{IsOfVariable}
use Rattle.running_boxes.proofs.Units.{ready_begun, ready_again, after_again, resolved_again, reads_same, reached_or_made}
use Rattle.running_boxes.proofs.resolving.resolve.Goals as goal

pub attempt-requires-clause-ready : goal.attempt-requires-clause-ready
attempt-requires-clause-ready c = ready_begun c.laws.ensures c.args.p.now c.args.layout.now c.args.compiled.now c.args.trail.now c.args.boxes.now c.args.running.now c.args.ops.now c.begin_unit.new.self c.begin_unit.ensures.only (record { compiled = c.requires.compiled; legal = c.requires.trail; sets = c.requires.running; pinned = c.requires.held })

pub returns-in-Ok-clause-resolved : goal.returns-in-Ok-clause-resolved
returns-in-Ok-clause-resolved c = subst (λ (s : PoolState). IsResolved c.args.p.now c.args.layout.now (table s.arena) (table c.attempt.new.ops.arena) c.args.boxes.now c.args.trail.now c.args.running.now c.attempt.new.running) c.begin_unit.ensures.only c.in-Ok.ensures.resolved

pub returns-in-Ok-clause-left : goal.returns-in-Ok-clause-left
returns-in-Ok-clause-left c = units_begun (IsOfVariable c.args.layout.now) c.args.ops.now c.begin_unit.new.self c.attempt.new.ops c.args.running.now c.attempt.new.running c.begin_unit.ensures.only c.attempt.ensures.left

pub returns-in-Err-Memory-clause-left : goal.returns-in-Err-Memory-clause-left
returns-in-Err-Memory-clause-left c = units_begun (IsOfVariable c.args.layout.now) c.args.ops.now c.begin_unit.new.self c.attempt.new.ops c.args.running.now c.attempt.new.running c.begin_unit.ensures.only c.attempt.ensures.left

pub attempt-requires-in-Err-Full-clause-ready : goal.attempt-requires-in-Err-Full-clause-ready
attempt-requires-in-Err-Full-clause-ready c =
    ready_again c.laws.ensures c.args.p.now c.args.layout.now c.args.compiled.now c.args.trail.now c.args.boxes.now c.args.running.now c.args.ops.now c.begin_unit.new.self c.attempt.new.ops c.collect.new.ops c.begin_unit-in-Err-Full.new.self c.begin_unit.ensures.only (record { compiled = c.requires.compiled; legal = c.requires.trail; sets = c.requires.running; pinned = c.requires.held }) c.pool.ensures.pinned_live (c.attempt.ensures.stays (c.in-Err-Full.is ∙ ap (λ (s : Stop). Err s) c.in-Err-Full.field-0-is)) (c.attempt.ensures.made (c.in-Err-Full.is ∙ ap (λ (s : Stop). Err s) c.in-Err-Full.field-0-is)) c.collect.ensures c.begin_unit-in-Err-Full.ensures.only c.attempt.new.running (c.attempt.ensures.same (c.in-Err-Full.is ∙ ap (λ (s : Stop). Err s) c.in-Err-Full.field-0-is))

pub returns-in-Err-Full-clause-resolved : goal.returns-in-Err-Full-clause-resolved
returns-in-Err-Full-clause-resolved c =
    on_ok_weaker c.attempt-in-Err-Full.result
    (resolved_again c.laws.ensures c.args.p.now c.args.layout.now c.args.compiled.now c.args.trail.now c.args.boxes.now c.args.running.now c.args.ops.now c.begin_unit.new.self c.attempt.new.ops c.collect.new.ops c.begin_unit-in-Err-Full.new.self c.begin_unit.ensures.only (record { compiled = c.requires.compiled; legal = c.requires.trail; sets = c.requires.running; pinned = c.requires.held }) c.pool.ensures.pinned_live (c.attempt.ensures.stays (c.in-Err-Full.is ∙ ap (λ (s : Stop). Err s) c.in-Err-Full.field-0-is)) (c.attempt.ensures.made (c.in-Err-Full.is ∙ ap (λ (s : Stop). Err s) c.in-Err-Full.field-0-is)) c.collect.ensures c.begin_unit-in-Err-Full.ensures.only c.attempt-in-Err-Full.new.ops c.attempt.new.running c.attempt-in-Err-Full.new.running (c.attempt.ensures.same (c.in-Err-Full.is ∙ ap (λ (s : Stop). Err s) c.in-Err-Full.field-0-is)))
    c.attempt-in-Err-Full.ensures.resolved

pub returns-in-Err-Full-clause-left : goal.returns-in-Err-Full-clause-left
returns-in-Err-Full-clause-left c =
    after_again c.laws.ensures c.args.p.now c.args.layout.now c.args.compiled.now c.args.trail.now c.args.boxes.now c.args.running.now c.args.ops.now c.begin_unit.new.self c.attempt.new.ops c.collect.new.ops c.begin_unit-in-Err-Full.new.self c.begin_unit.ensures.only (record { compiled = c.requires.compiled; legal = c.requires.trail; sets = c.requires.running; pinned = c.requires.held }) c.pool.ensures.pinned_live (c.attempt.ensures.stays (c.in-Err-Full.is ∙ ap (λ (s : Stop). Err s) c.in-Err-Full.field-0-is)) (c.attempt.ensures.made (c.in-Err-Full.is ∙ ap (λ (s : Stop). Err s) c.in-Err-Full.field-0-is)) c.collect.ensures c.begin_unit-in-Err-Full.ensures.only c.attempt-in-Err-Full.new.ops c.attempt.new.running c.attempt-in-Err-Full.new.running (c.attempt.ensures.same (c.in-Err-Full.is ∙ ap (λ (s : Stop). Err s) c.in-Err-Full.field-0-is)) c.attempt-in-Err-Full.ensures.left

pub returns-in-Err-Full-clause-same : goal.returns-in-Err-Full-clause-same
returns-in-Err-Full-clause-same c e = c.attempt-in-Err-Full.ensures.same e ∙ (c.attempt.ensures.same (c.in-Err-Full.is ∙ ap (λ (s : Stop). Err s) c.in-Err-Full.field-0-is))

pub returns-in-Err-Full-clause-reads : goal.returns-in-Err-Full-clause-reads
returns-in-Err-Full-clause-reads c e =
    reads_same c.laws.ensures c.args.p.now c.args.layout.now c.args.compiled.now c.args.trail.now c.args.boxes.now c.args.running.now c.args.ops.now c.begin_unit.new.self c.attempt.new.ops c.collect.new.ops c.begin_unit-in-Err-Full.new.self c.begin_unit.ensures.only (record { compiled = c.requires.compiled; legal = c.requires.trail; sets = c.requires.running; pinned = c.requires.held }) c.pool.ensures.pinned_live (c.attempt.ensures.stays (c.in-Err-Full.is ∙ ap (λ (s : Stop). Err s) c.in-Err-Full.field-0-is)) (c.attempt.ensures.made (c.in-Err-Full.is ∙ ap (λ (s : Stop). Err s) c.in-Err-Full.field-0-is)) c.collect.ensures c.begin_unit-in-Err-Full.ensures.only c.pool-in-Err-Full.ensures.pinned_live c.attempt-in-Err-Full.new.ops (c.attempt-in-Err-Full.ensures.stays e) (c.attempt-in-Err-Full.ensures.made e)
    c.attempt-in-Err-Full.new.running (c.attempt-in-Err-Full.ensures.same e ∙ (c.attempt.ensures.same (c.in-Err-Full.is ∙ ap (λ (s : Stop). Err s) c.in-Err-Full.field-0-is)))

pub returns-in-Err-Full-clause-made : goal.returns-in-Err-Full-clause-made
returns-in-Err-Full-clause-made c e =
    reached_or_made c.laws.ensures c.args.p.now c.args.layout.now c.args.compiled.now c.args.trail.now c.args.boxes.now c.args.running.now c.args.ops.now c.begin_unit.new.self c.attempt.new.ops c.collect.new.ops c.begin_unit-in-Err-Full.new.self c.begin_unit.ensures.only (record { compiled = c.requires.compiled; legal = c.requires.trail; sets = c.requires.running; pinned = c.requires.held }) c.pool.ensures.pinned_live (c.attempt.ensures.stays (c.in-Err-Full.is ∙ ap (λ (s : Stop). Err s) c.in-Err-Full.field-0-is)) (c.attempt.ensures.made (c.in-Err-Full.is ∙ ap (λ (s : Stop). Err s) c.in-Err-Full.field-0-is)) c.collect.ensures c.begin_unit-in-Err-Full.ensures.only c.pool-in-Err-Full.ensures.pinned_live c.attempt-in-Err-Full.new.ops (c.attempt-in-Err-Full.ensures.stays e) (c.attempt-in-Err-Full.ensures.made e)
