use Rattle.bit_layout.proofs.KindWords.{length-word_of, words_are_apart}
use Rattle.bit_layout.proofs.laws.values_have_words.Goals as goal

pub returns-clause-long : goal.returns-clause-long
returns-clause-long c = length-word_of

pub returns-clause-apart : goal.returns-clause-apart
returns-clause-apart c = words_are_apart
