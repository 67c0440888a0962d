use Rattle.std.proofs.Common.{Err, ap, ◌∙◌, subst}
use Rattle.std.proofs.lemmas.Result.{IfOk-weaker}
use Rattle.diagram_arena.specs.declared.nodes.Stop.{Stop}
use Rattle.diagram_arena.specs.Arena.{table}
use Rattle.node_reclaim.specs.Pool.{PoolState}
use Rattle.propagation.specs.Work.{IsStepped}
use Rattle.propagation.proofs.Moving.{onward_begun}
use Rattle.propagation.proofs.Trying.{ready_begun, ready_again, onward_again, stepped_again, reached_or_wanted}
use Rattle.propagation.proofs.units.take.Goals as goal

pub attempt-requires-clause-ready : goal.attempt-requires-clause-ready
attempt-requires-clause-ready c = ready_begun c.args.p.now c.args.layout.now c.args.ops.now c.begin_unit.new.self c.args.compiled.now c.args.boxes.now c.args.trail.now c.begin_unit.ensures.only c.requires.ready

pub returns-in-Ok-clause-stepped : goal.returns-in-Ok-clause-stepped
returns-in-Ok-clause-stepped c =
    subst (λ (s : PoolState). IsStepped c.args.p.now c.args.layout.now (table s.arena) (table c.attempt.new.ops.arena) c.args.boxes.now c.args.unit c.args.trail.now c.attempt.new.trail c.in-Ok.answer) c.begin_unit.ensures.only c.in-Ok.ensures.stepped

pub returns-in-Ok-clause-onward : goal.returns-in-Ok-clause-onward
returns-in-Ok-clause-onward c = onward_begun c.args.p.now c.args.layout.now c.args.boxes.now c.args.ops.now c.begin_unit.new.self c.attempt.new.ops c.args.trail.now c.attempt.new.trail c.begin_unit.ensures.only c.attempt.ensures.onward

pub returns-in-Err-Memory-clause-onward : goal.returns-in-Err-Memory-clause-onward
returns-in-Err-Memory-clause-onward c = onward_begun c.args.p.now c.args.layout.now c.args.boxes.now c.args.ops.now c.begin_unit.new.self c.attempt.new.ops c.args.trail.now c.attempt.new.trail c.begin_unit.ensures.only c.attempt.ensures.onward

pub attempt-requires-in-Err-Full-clause-ready : goal.attempt-requires-in-Err-Full-clause-ready
attempt-requires-in-Err-Full-clause-ready c = ready_again c.laws.ensures.stay c.args.p.now c.args.layout.now c.args.compiled.now c.args.boxes.now c.args.trail.now c.args.ops.now c.begin_unit.new.self c.attempt.new.ops c.collect.new.ops c.begin_unit-in-Err-Full.new.self c.begin_unit.ensures.only c.requires.ready c.attempt.new.trail (c.attempt.ensures.same (c.in-Err-Full.is ∙ ap (λ (s : Stop). Err s) c.in-Err-Full.field-0-is)) c.attempt.ensures.onward (c.attempt.ensures.stays (c.in-Err-Full.is ∙ ap (λ (s : Stop). Err s) c.in-Err-Full.field-0-is)) c.collect.ensures c.begin_unit-in-Err-Full.ensures.only

pub returns-in-Err-Full-clause-stepped : goal.returns-in-Err-Full-clause-stepped
returns-in-Err-Full-clause-stepped c =
    IfOk-weaker c.attempt-in-Err-Full.result
    (IsStepped c.args.p.now c.args.layout.now (table c.begin_unit-in-Err-Full.new.self.arena) (table c.attempt-in-Err-Full.new.ops.arena) c.args.boxes.now c.args.unit c.attempt.new.trail c.attempt-in-Err-Full.new.trail)
    (IsStepped c.args.p.now c.args.layout.now (table c.args.ops.now.arena) (table c.attempt-in-Err-Full.new.ops.arena) c.args.boxes.now c.args.unit c.args.trail.now c.attempt-in-Err-Full.new.trail)
    (λ o h. stepped_again c.laws.ensures.stay c.args.p.now c.args.layout.now c.args.compiled.now c.args.boxes.now c.args.trail.now c.args.ops.now c.begin_unit.new.self c.attempt.new.ops c.collect.new.ops c.begin_unit-in-Err-Full.new.self c.begin_unit.ensures.only c.requires.ready c.attempt.new.trail (c.attempt.ensures.same (c.in-Err-Full.is ∙ ap (λ (s : Stop). Err s) c.in-Err-Full.field-0-is)) c.attempt.ensures.onward (c.attempt.ensures.stays (c.in-Err-Full.is ∙ ap (λ (s : Stop). Err s) c.in-Err-Full.field-0-is)) c.collect.ensures c.begin_unit-in-Err-Full.ensures.only c.attempt-in-Err-Full.new.ops c.args.unit c.attempt-in-Err-Full.new.trail o h)
    c.attempt-in-Err-Full.ensures.stepped

pub returns-in-Err-Full-clause-onward : goal.returns-in-Err-Full-clause-onward
returns-in-Err-Full-clause-onward c = onward_again c.laws.ensures.stay c.args.p.now c.args.layout.now c.args.compiled.now c.args.boxes.now c.args.trail.now c.args.ops.now c.begin_unit.new.self c.attempt.new.ops c.collect.new.ops c.begin_unit-in-Err-Full.new.self c.begin_unit.ensures.only c.requires.ready c.attempt.new.trail (c.attempt.ensures.same (c.in-Err-Full.is ∙ ap (λ (s : Stop). Err s) c.in-Err-Full.field-0-is)) c.attempt.ensures.onward (c.attempt.ensures.stays (c.in-Err-Full.is ∙ ap (λ (s : Stop). Err s) c.in-Err-Full.field-0-is)) c.collect.ensures c.begin_unit-in-Err-Full.ensures.only c.attempt-in-Err-Full.new.ops c.attempt-in-Err-Full.new.trail c.attempt-in-Err-Full.ensures.onward

pub returns-in-Err-Full-clause-stopped : goal.returns-in-Err-Full-clause-stopped
returns-in-Err-Full-clause-stopped c e =
    reached_or_wanted c.laws.ensures.stay c.args.p.now c.args.layout.now c.args.compiled.now c.args.boxes.now c.args.trail.now c.args.ops.now c.begin_unit.new.self c.attempt.new.ops c.collect.new.ops c.begin_unit-in-Err-Full.new.self c.begin_unit.ensures.only c.requires.ready c.attempt.new.trail (c.attempt.ensures.same (c.in-Err-Full.is ∙ ap (λ (s : Stop). Err s) c.in-Err-Full.field-0-is)) c.attempt.ensures.onward (c.attempt.ensures.stays (c.in-Err-Full.is ∙ ap (λ (s : Stop). Err s) c.in-Err-Full.field-0-is)) c.collect.ensures c.begin_unit-in-Err-Full.ensures.only c.pool-in-Err-Full.ensures.pinned_live c.attempt-in-Err-Full.new.ops (c.attempt-in-Err-Full.ensures.stays e) c.args.unit (c.attempt-in-Err-Full.ensures.made e)
    c.attempt-in-Err-Full.new.trail (c.attempt-in-Err-Full.ensures.same e)
