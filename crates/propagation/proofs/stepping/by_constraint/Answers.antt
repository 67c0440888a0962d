use Rattle.std.proofs.Common.{sym, subst}
use Rattle.std.proofs.lemmas.Result.{IfOk-weaker}
use Rattle.set_meaning.specs.Relations.{Holds}
use Rattle.diagram_arena.specs.Arena.{table}
use Rattle.exact_steps.specs.Domains.{AreDomains, family}
use Rattle.exact_steps.specs.Steps.{IsStepOf}
use Rattle.running_boxes.specs.declared.beginning.Conflict.TheVariants as conflict
use Rattle.propagation.specs.Work.{IsAnswerOf}
use Rattle.propagation.proofs.Settling.{there, scopes_long}
use Rattle.propagation.proofs.Constraints.{constraint_at, constraint_answer, constraint_news}
use Rattle.propagation.proofs.stepping.by_constraint.Goals as goal

pub step-requires-clause-compiled : goal.step-requires-clause-compiled
step-requires-clause-compiled c = (c.args.p.now, c.requires.ready.compiled)

pub step-requires-clause-constraint : goal.step-requires-clause-constraint
step-requires-clause-constraint c = scopes_long c.args.layout.now c.args.p.now (table c.args.ops.now.arena) c.args.compiled.now c.args.c.0 c.requires.ready.compiled c.requires.known

pub step-requires-clause-domains : goal.step-requires-clause-domains
step-requires-clause-domains c = subst (AreDomains c.args.layout.now (table c.args.ops.now.arena)) (sym c.domains.ensures) c.requires.ready.legal.readable.domains

pub returns-clause-answer : goal.returns-clause-answer
returns-clause-answer c =
    let e = (there c.args.layout.now c.args.p.now (table c.args.ops.now.arena) c.args.compiled.now c.args.c.0 c.requires.ready.compiled c.requires.known) in
    IfOk-weaker c.step.result (IsStepOf c.args.layout.now e.scope (Holds e.constraint) (family c.args.layout.now (table c.args.ops.now.arena) c.domains.result.now) (table c.step.new.ops.arena))
    (IsAnswerOf c.args.p.now c.args.layout.now (table c.step.new.ops.arena) c.args.boxes.now (family c.args.layout.now (table c.step.new.ops.arena) c.args.trail.now.domains) (conflict.Constraint c.args.c))
    (λ o h. constraint_answer c.args.p.now c.args.layout.now (table c.args.ops.now.arena) (table c.step.new.ops.arena) c.args.compiled.now c.args.boxes.now c.args.c c.args.trail.now.domains c.obeys_order.ensures c.requires.known c.requires.ready.compiled c.requires.ready.legal.readable.domains c.step.ensures.stays.grows c.domains.result.now c.domains.ensures c.laws.ensures.boxes o h)
    (c.step.ensures.answer e.constraint e.scope (constraint_at c.args.p.now c.args.layout.now (table c.args.ops.now.arena) (table c.step.new.ops.arena) c.args.compiled.now c.args.boxes.now c.args.c c.args.trail.now.domains c.obeys_order.ensures c.requires.known c.requires.ready.compiled c.requires.ready.legal.readable.domains c.step.ensures.stays.grows))

pub returns-clause-made : goal.returns-clause-made
returns-clause-made c =
    let e = (there c.args.layout.now c.args.p.now (table c.args.ops.now.arena) c.args.compiled.now c.args.c.0 c.requires.ready.compiled c.requires.known) in
    constraint_news c.args.p.now c.args.layout.now (table c.args.ops.now.arena) (table c.step.new.ops.arena) c.args.compiled.now c.args.boxes.now c.args.c c.args.trail.now.domains c.obeys_order.ensures c.requires.known c.requires.ready.compiled c.requires.ready.legal.readable.domains c.step.ensures.stays.grows c.domains.result.now c.domains.ensures (c.step.ensures.parts e.constraint e.scope (constraint_at c.args.p.now c.args.layout.now (table c.args.ops.now.arena) (table c.step.new.ops.arena) c.args.compiled.now c.args.boxes.now c.args.c c.args.trail.now.domains c.obeys_order.ensures c.requires.known c.requires.ready.compiled c.requires.ready.legal.readable.domains c.step.ensures.stays.grows))
