use Rattle.scope_words.proofs.Bits.{same_variables, equal_variables, variables_equal}
use Rattle.scope_words.proofs.scope.distinct.Goals as goal

pub returns : goal.returns
returns c = same_variables _ equal_variables variables_equal _ _ _ _ c.in_ok-variables.ensures.items c.sort_unstable.ensures.permutation c.dedup.ensures.filtered
