use Rattle.scope_words.proofs.Decoding.{sets_given}
use Rattle.scope_words.proofs.laws.words_give_sets.Goals as goal

pub returns : goal.returns
returns c = sets_given
