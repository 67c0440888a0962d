use Rattle.scope_words.proofs.Words.{reading_agrees, gives_agree}
use Rattle.scope_words.proofs.laws.words_depend_on_their_bits.Goals as goal

pub returns-clause-reading : goal.returns-clause-reading
returns-clause-reading c = reading_agrees

pub returns-clause-gives : goal.returns-clause-gives
returns-clause-gives c = gives_agree
