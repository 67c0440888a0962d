use Rattle.set_meaning.specs.Problems.{IsShown}
use Rattle.problem_limits.proofs.Members.{refused, shown_by, without_terms}
use Rattle.problem_limits.proofs.legality.is_shown.Goals as goal

pub returns-then-not-are_terms : goal.returns-then-not-are_terms
returns-then-not-are_terms c =
    refused (IsShown c.args.kinds.now c.args.item.now)
    (without_terms c.args.kinds.now c.args.item.now c.items.result.now c.are_terms.result c.items.ensures c.are_terms.ensures c.if-not-are_terms.true)

pub returns : goal.returns
returns c =
    shown_by c.args.kinds.now c.args.item.now c.items.result.now c.items-4.result.now c.items-2.result.now c.items-3.result.now
    c.are_terms.result c.are_dims.result c.has_terms_for.result c.items.ensures c.are_terms.ensures c.if-not-are_terms.false
    c.items-2.ensures c.are_dims.ensures c.if-not-are_dims.false c.items-3.ensures c.items-4.ensures c.has_terms_for.ensures
