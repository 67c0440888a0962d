use Rattle.value_sets.proofs.Staying.{set_same}
use Rattle.exact_steps.proofs.Wanted.{values_same}
use Rattle.value_sets.proofs.laws.value_sets_are_of_words.Goals as goal

pub returns-clause-set : goal.returns-clause-set
returns-clause-set c = set_same

pub returns-clause-values : goal.returns-clause-values
returns-clause-values c = values_same
