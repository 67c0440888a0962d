use Rattle.model_limits.proofs.Kept.{sizes_kept}
use Rattle.model_limits.proofs.laws.problems_of_texts_keep_sizes.Goals as goal

pub returns : goal.returns
returns c = λ text p is.
    sizes_kept c.widths_are_least.ensures is.tree p
    (c.trees_are_in_order.ensures.solves_last _ is.tree is.spelled.spelled.spelled)
    (λ item h. c.trees_are_in_order.ensures.small text is.spelled.tokens is.tree is.spelled.scanned is.spelled.spelled.spelled item h)
    is.problem
