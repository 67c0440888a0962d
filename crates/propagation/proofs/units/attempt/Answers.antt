use Rattle.std.proofs.Common.{◌≢◌, List, sym, ap, ◌∙◌, subst}
use Rattle.set_meaning.specs.declared.problems.VarId.{VarId}
use Rattle.diagram_arena.specs.declared.nodes.Ref.{Ref}
use Rattle.diagram_arena.specs.Arena.{table}
use Rattle.node_reclaim.specs.Pool.{PoolState}
use Rattle.exact_steps.specs.Domains.{family}
use Rattle.domain_trail.specs.declared.entries.Reason.{Reason}
use Rattle.domain_trail.specs.declared.entries.Reason.TheVariants as why
use Rattle.search_state.specs.Readings.{IsKnown}
use Rattle.propagation.specs.Work.{reason_for, AreNarrowings, narrowed_by}
use Rattle.propagation.proofs.Trying.{reason_known, not_decision, narrowings_of, step_onward, put_onward, has_stepped}
use Rattle.propagation.proofs.units.attempt.Goals as goal

pub returns-in_err-answer-clause-onward : goal.returns-in_err-answer-clause-onward
returns-in_err-answer-clause-onward c = step_onward c.laws.ensures.stay c.args.p.now c.args.layout.now c.args.ops.now c.step_of.new.ops c.args.compiled.now c.args.boxes.now c.args.trail.now c.args.unit c.requires.ready c.pool.ensures.pinned_live c.step_of.ensures.stays c.step_of.ensures.made

pub put-requires-clause-legal : goal.put-requires-clause-legal
put-requires-clause-legal c = (step_onward c.laws.ensures.stay c.args.p.now c.args.layout.now c.args.ops.now c.step_of.new.ops c.args.compiled.now c.args.boxes.now c.args.trail.now c.args.unit c.requires.ready c.pool.ensures.pinned_live c.step_of.ensures.stays c.step_of.ensures.made).narrowed.trail

pub put-requires-clause-known : goal.put-requires-clause-known
put-requires-clause-known c = subst (IsKnown c.args.boxes.now) (sym c.reason_of.ensures) (reason_known c.args.p.now c.args.boxes.now c.args.unit c.requires.known)

pub put-requires-clause-step : goal.put-requires-clause-step
put-requires-clause-step c = subst (λ (r : Reason). r ≢ why.Decision) (sym c.reason_of.ensures) (not_decision c.args.unit)

pub put-requires-clause-narrowings : goal.put-requires-clause-narrowings
put-requires-clause-narrowings c =
    subst (λ (r : Reason). AreNarrowings c.args.p.now c.args.layout.now (table c.step_of.new.ops.arena) c.args.boxes.now r (family c.args.layout.now (table c.step_of.new.ops.arena) c.args.trail.now.domains) c.narrowings.result.now) (sym c.reason_of.ensures)
    (subst (AreNarrowings c.args.p.now c.args.layout.now (table c.step_of.new.ops.arena) c.args.boxes.now (reason_for c.args.unit) (family c.args.layout.now (table c.step_of.new.ops.arena) c.args.trail.now.domains)) (sym c.narrowings.ensures)
    (narrowings_of c.args.p.now c.args.layout.now (table c.step_of.new.ops.arena) c.args.boxes.now (family c.args.layout.now (table c.step_of.new.ops.arena) c.args.trail.now.domains) c.args.unit c.in_ok-answer.answer c.in_ok-answer.ensures.answer))

pub returns-in_err-put-clause-onward : goal.returns-in_err-put-clause-onward
returns-in_err-put-clause-onward c = put_onward c.laws.ensures.stay c.args.p.now c.args.layout.now c.args.ops.now c.step_of.new.ops c.args.compiled.now c.args.boxes.now c.args.trail.now c.args.unit c.requires.ready c.pool.ensures.pinned_live c.step_of.ensures.stays c.step_of.ensures.made c.put.new.ops c.put.new.trail (ap (λ (s : PoolState). s.arena) c.put.ensures.only) c.put.ensures.moved c.put.ensures.narrowed

pub returns-clause-onward : goal.returns-clause-onward
returns-clause-onward c = put_onward c.laws.ensures.stay c.args.p.now c.args.layout.now c.args.ops.now c.step_of.new.ops c.args.compiled.now c.args.boxes.now c.args.trail.now c.args.unit c.requires.ready c.pool.ensures.pinned_live c.step_of.ensures.stays c.step_of.ensures.made c.put.new.ops c.put.new.trail (ap (λ (s : PoolState). s.arena) c.put.ensures.only) c.put.ensures.moved c.put.ensures.narrowed

pub returns-clause-stepped : goal.returns-clause-stepped
returns-clause-stepped c =
    has_stepped c.laws.ensures.stay c.args.p.now c.args.layout.now c.args.ops.now c.step_of.new.ops c.args.compiled.now c.args.boxes.now c.args.trail.now c.args.unit c.requires.ready c.pool.ensures.pinned_live c.step_of.ensures.stays c.step_of.ensures.made c.put.new.ops c.put.new.trail (ap (λ (s : PoolState). s.arena) c.put.ensures.only) c.put.ensures.moved c.put.ensures.narrowed c.laws.ensures.narrow c.requires.known c.in_ok-answer.answer c.in_ok-answer.ensures.answer
    (c.in_ok-put.ensures.put
    ∙ ap (λ (r : Reason). narrowed_by r c.narrowings.result.now c.args.trail.now) c.reason_of.ensures
    ∙ ap (λ (kept : List (VarId × Ref)). narrowed_by (reason_for c.args.unit) kept c.args.trail.now) c.narrowings.ensures)
