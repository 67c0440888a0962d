use Rattle.value_sets.proofs.SetWords.{canonical}
use Rattle.value_sets.proofs.laws.sets_of_the_same_values_are_one.Goals as goal

pub returns : goal.returns
returns c l t v f g ok reduced first second same = canonical c.word_laws.ensures l t v f g ok reduced first second same
