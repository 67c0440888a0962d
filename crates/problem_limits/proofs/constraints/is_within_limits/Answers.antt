use Rattle.problem_limits.specs.Limits.{IsWithinLimits}
use Rattle.problem_limits.proofs.Members.{refused, within_by, without_small}
use Rattle.problem_limits.proofs.constraints.is_within_limits.Goals as goal

pub returns-then-not-are_small_arguments : goal.returns-then-not-are_small_arguments
returns-then-not-are_small_arguments c =
    refused (IsWithinLimits c.args.kinds.now c.args.c.now)
    (without_small c.args.kinds.now c.args.c.now c.items.result.now c.are_small_arguments.result c.items.ensures c.are_small_arguments.ensures c.if-not-are_small_arguments.true)

pub returns : goal.returns
returns c =
    within_by c.args.kinds.now c.args.c.now c.items.result.now c.items-2.result.now c.are_small_arguments.result c.are_few_terms.result c.in_ok-narrow.narrow
    c.items.ensures c.are_small_arguments.ensures c.if-not-are_small_arguments.false c.items-2.ensures c.are_few_terms.ensures c.if-not-are_few_terms.false
    c.in_ok-narrow.ensures
