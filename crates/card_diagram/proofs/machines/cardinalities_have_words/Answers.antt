use Rattle.card_diagram.proofs.Words.{words_there}
use Rattle.card_diagram.proofs.machines.cardinalities_have_words.Goals as goal

pub returns : goal.returns
returns c l args ok fits =
    words_there c.words_are_read_by_position.ensures.long c.words_of_sets_have_values.ensures c.values_fit_together.ensures c.linear_sums_have_words.ensures l args ok fits
