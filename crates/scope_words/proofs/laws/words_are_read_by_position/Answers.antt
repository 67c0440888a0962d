use Rattle.scope_words.proofs.Words.{length-read, read_position}
use Rattle.scope_words.proofs.laws.words_are_read_by_position.Goals as goal

pub returns-clause-long : goal.returns-clause-long
returns-clause-long c = length-read

pub returns-clause-at : goal.returns-clause-at
returns-clause-at c = read_position
