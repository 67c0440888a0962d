use Rattle.set_shapes.proofs.ElementWords.{words_there}
use Rattle.set_shapes.proofs.element_relation.elements_have_words.Goals as goal

pub returns : goal.returns
returns c l args ok = words_there c.words_are_read_by_position.ensures.long c.words_of_sets_have_values.ensures c.values_fit_together.ensures c.words_give_one_value.ensures.once l args ok
