use Rattle.std.proofs.Common.{◌+◌, None, Some, ◌∙◌, subst}
use Rattle.std.specs.Prelude.{IfOk}
use Rattle.std.proofs.lemmas.Result.{IfOk-weaker}
use Rattle.diagram_arena.specs.Arena.{table}
use Rattle.node_reclaim.specs.Pool.{PoolState}
use Rattle.search_rules.specs.Box.{IsBoxStep}
use Rattle.exact_steps.specs.Domains.{family}
use Rattle.box_clauses.specs.declared.stepping.BoxResult.TheVariants as answer
use Rattle.box_clauses.specs.Boxes.{box_of, step_of}
use Rattle.box_clauses.specs.Work.{IsFirstOutside}
use Rattle.box_clauses.proofs.Cutting.{family_has_values, all_lie, step_two}
use Rattle.box_clauses.proofs.stepping.box_step.Goals as goal

pub returns-in-None-clause-step : goal.returns-in-None-clause-step
returns-in-None-clause-step c =
    let l = c.args.layout.now in
    let t = table c.args.ops.now.arena in
    all_lie l t c.args.sides.now c.args.domains.now c.requires.sides c.requires.domains
    (subst (IsFirstOutside l t c.args.domains.now c.args.sides.now 0) c.in-None.is c.in_ok-first_outside.ensures.first)

pub returns-in-None-clause-outside : goal.returns-in-None-clause-outside
returns-in-None-clause-outside c =
    let l = c.args.layout.now in
    let t = table c.args.ops.now.arena in
    c.box_step_is_the_step_outside.ensures (box_of l t c.args.sides.now) (family l t c.args.domains.now) (step_of l t answer.Empty) (family_has_values l t c.args.domains.now c.requires.domains)
    (all_lie l t c.args.sides.now c.args.domains.now c.requires.sides c.requires.domains
    (subst (IsFirstOutside l t c.args.domains.now c.args.sides.now 0) c.in-None.is c.in_ok-first_outside.ensures.first))

pub returns-in-Some-2-clause-step : goal.returns-in-Some-2-clause-step
returns-in-Some-2-clause-step c =
    let l = c.args.layout.now in
    let t = table c.args.ops.now.arena in
    step_two l t c.args.sides.now c.args.domains.now c.requires.sides c.requires.domains c.in-Some.at c.in-Some-2.field-0
    (subst (IsFirstOutside l t c.args.domains.now c.args.sides.now 0) c.in-Some.is c.in_ok-first_outside.ensures.first)
    (subst (λ (s : PoolState). IsFirstOutside l (table s.arena) c.args.domains.now c.args.sides.now (c.in-Some.at + 1) (Some c.in-Some-2.field-0)) c.first_outside.ensures.same
    (subst (IsFirstOutside l (table c.first_outside.new.ops.arena) c.args.domains.now c.args.sides.now (c.in-Some.at + 1)) c.in-Some-2.is c.in_ok-first_outside-in-Some.ensures.first))

pub returns-in-Some-2-clause-outside : goal.returns-in-Some-2-clause-outside
returns-in-Some-2-clause-outside c =
    let l = c.args.layout.now in
    let t = table c.args.ops.now.arena in
    c.box_step_is_the_step_outside.ensures (box_of l t c.args.sides.now) (family l t c.args.domains.now) (step_of l t answer.Same) (family_has_values l t c.args.domains.now c.requires.domains)
    (step_two l t c.args.sides.now c.args.domains.now c.requires.sides c.requires.domains c.in-Some.at c.in-Some-2.field-0
    (subst (IsFirstOutside l t c.args.domains.now c.args.sides.now 0) c.in-Some.is c.in_ok-first_outside.ensures.first)
    (subst (λ (s : PoolState). IsFirstOutside l (table s.arena) c.args.domains.now c.args.sides.now (c.in-Some.at + 1) (Some c.in-Some-2.field-0)) c.first_outside.ensures.same
    (subst (IsFirstOutside l (table c.first_outside.new.ops.arena) c.args.domains.now c.args.sides.now (c.in-Some.at + 1)) c.in-Some-2.is c.in_ok-first_outside-in-Some.ensures.first)))

pub returns-in-None-2-clause-outside : goal.returns-in-None-2-clause-outside
returns-in-None-2-clause-outside c =
    let l = c.args.layout.now in
    let t = table c.args.ops.now.arena in
    let u = table c.narrow.new.ops.arena in
    IfOk-weaker c.narrow.result (λ r. IsBoxStep (box_of l t c.args.sides.now) (family l t c.args.domains.now) (step_of l u r)) _
    (λ r is. c.box_step_is_the_step_outside.ensures (box_of l t c.args.sides.now) (family l t c.args.domains.now) (step_of l u r) (family_has_values l t c.args.domains.now c.requires.domains) is)
    (subst (λ (s : PoolState). IfOk c.narrow.result (λ r. IsBoxStep (box_of l (table s.arena) c.args.sides.now) (family l (table s.arena) c.args.domains.now) (step_of l u r)))
    (c.first_outside-in-Some.ensures.same ∙ c.first_outside.ensures.same) c.narrow.ensures.step)
