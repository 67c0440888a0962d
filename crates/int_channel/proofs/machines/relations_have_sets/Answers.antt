use Rattle.int_channel.proofs.WordsThere.{words_there}
use Rattle.int_channel.proofs.machines.relations_have_sets.Goals as goal

pub returns : goal.returns
returns c l relation args ok shape =
    words_there c.words_are_read_by_position.ensures.long c.words_of_sets_have_values.ensures c.values_fit_together.ensures c.words_give_one_value.ensures.once l relation args ok shape
