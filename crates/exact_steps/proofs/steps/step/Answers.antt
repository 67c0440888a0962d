use Rattle.std.proofs.Common.{◌∙◌, subst}
use Rattle.std.specs.Prelude.{MatchBool}
use Rattle.diagram_arena.specs.Arena.{table}
use Rattle.diagram_ops.specs.Words.{HasNone, HasSome, product_of}
use Rattle.exact_steps.specs.Work.{stated, given}
use Rattle.exact_steps.proofs.Wanted.{wanted_reach}
use Rattle.exact_steps.proofs.Products.{live_domains}
use Rattle.exact_steps.proofs.Ending.{domains_long, empty_answer, end_answer, end_parts}
use Rattle.exact_steps.proofs.steps.step.Goals as goal

pub product_is_empty-requires-clause-gs_live : goal.product_is_empty-requires-clause-gs_live
product_is_empty-requires-clause-gs_live c =
    live_domains c.args.layout.now c.args.domains.now c.as_slice-own.result.now c.args.scope.now (table c.args.ops.now.arena) c.requires.domains (c.as_slice-own.ensures.value ∙ c.in_ok-gathered.ensures)

pub returns-then-none-clause-answer : goal.returns-then-none-clause-answer
returns-then-none-clause-answer c =
    empty_answer c.args.layout.now c.args.scope.now c.args.constraint c.args.domains.now c.as_slice-own.result.now c.args.ops.now c.obeys_order.ensures c.requires.known c.requires.constraint c.requires.domains
    (c.as_slice-own.ensures.value ∙ c.in_ok-gathered.ensures) c.pool.ensures.reduced
    (subst (λ b. MatchBool b (HasNone (product_of (table c.args.ops.now.arena) c.args.constraint c.as_slice-own.result.now)) (HasSome (product_of (table c.args.ops.now.arena) c.args.constraint c.as_slice-own.result.now))) c.if-none.true
    c.in_ok-none.ensures.empty)

pub returns-in_err-kept-clause-parts : goal.returns-in_err-kept-clause-parts
returns-in_err-kept-clause-parts c =
    end_parts c.args.layout.now c.args.scope.now c.args.constraint c.args.domains.now c.as_slice-own.result.now c.args.ops.now c.obeys_order.ensures c.requires.known c.requires.constraint c.requires.domains
    (c.as_slice-own.ensures.value ∙ c.in_ok-gathered.ensures) (table c.projected.new.ops.arena) c.projected.ensures.parts

pub returns-in_err-kept-clause-reach : goal.returns-in_err-kept-clause-reach
returns-in_err-kept-clause-reach c =
    wanted_reach c.args.layout.now c.args.scope.now (stated c.args.layout.now c.args.ops.now c.args.constraint) (given c.args.layout.now c.args.ops.now c.args.domains.now) (table c.args.ops.now.arena) (table c.projected.new.ops.arena)
    c.obeys_order.ensures c.projected.ensures.stays.reduced
    (end_parts c.args.layout.now c.args.scope.now c.args.constraint c.args.domains.now c.as_slice-own.result.now c.args.ops.now c.obeys_order.ensures c.requires.known c.requires.constraint c.requires.domains
    (c.as_slice-own.ensures.value ∙ c.in_ok-gathered.ensures) (table c.projected.new.ops.arena) c.projected.ensures.parts)

pub returns-clause-answer : goal.returns-clause-answer
returns-clause-answer c =
    end_answer c.args.layout.now c.args.scope.now c.args.constraint c.args.domains.now c.as_slice-own.result.now c.args.ops.now c.obeys_order.ensures c.requires.known c.requires.constraint c.requires.domains
    (c.as_slice-own.ensures.value ∙ c.in_ok-gathered.ensures) c.projected.new.ops c.in_ok-kept.kept.items c.answer.result
    (subst (λ b. MatchBool b (HasNone (product_of (table c.args.ops.now.arena) c.args.constraint c.as_slice-own.result.now)) (HasSome (product_of (table c.args.ops.now.arena) c.args.constraint c.as_slice-own.result.now))) c.if-none.false
    c.in_ok-none.ensures.empty)
    c.in_ok-kept.ensures.kept c.answer.ensures

pub returns-clause-parts : goal.returns-clause-parts
returns-clause-parts c =
    end_parts c.args.layout.now c.args.scope.now c.args.constraint c.args.domains.now c.as_slice-own.result.now c.args.ops.now c.obeys_order.ensures c.requires.known c.requires.constraint c.requires.domains
    (c.as_slice-own.ensures.value ∙ c.in_ok-gathered.ensures) (table c.projected.new.ops.arena) c.projected.ensures.parts

pub returns-clause-reach : goal.returns-clause-reach
returns-clause-reach c =
    wanted_reach c.args.layout.now c.args.scope.now (stated c.args.layout.now c.args.ops.now c.args.constraint) (given c.args.layout.now c.args.ops.now c.args.domains.now) (table c.args.ops.now.arena) (table c.projected.new.ops.arena)
    c.obeys_order.ensures c.projected.ensures.stays.reduced
    (end_parts c.args.layout.now c.args.scope.now c.args.constraint c.args.domains.now c.as_slice-own.result.now c.args.ops.now c.obeys_order.ensures c.requires.known c.requires.constraint c.requires.domains
    (c.as_slice-own.ensures.value ∙ c.in_ok-gathered.ensures) (table c.projected.new.ops.arena) c.projected.ensures.parts)
