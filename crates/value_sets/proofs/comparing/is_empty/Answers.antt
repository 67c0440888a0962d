use Rattle.value_sets.proofs.Deciding.{empty_case}
use Rattle.value_sets.proofs.comparing.is_empty.Goals as goal

pub returns-clause-values : goal.returns-clause-values
returns-clause-values c l t v ok reduced is = empty_case c.word_laws.ensures l t v c.args.r c.is_zero.result c.is_zero.ensures reduced is
