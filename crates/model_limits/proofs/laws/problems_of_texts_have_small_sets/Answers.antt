use Rattle.model_limits.proofs.Kept.{set_limits_kept}
use Rattle.model_limits.proofs.laws.problems_of_texts_have_small_sets.Goals as goal

pub returns : goal.returns
returns c = λ is.
    set_limits_kept is.tree c.args.p.now
    (c.trees_are_in_order.ensures.solves_last _ is.tree is.spelled.spelled.spelled)
    (λ item h. c.trees_are_in_order.ensures.small c.args.text.now is.spelled.tokens is.tree is.spelled.scanned is.spelled.spelled.spelled item h)
    is.problem
