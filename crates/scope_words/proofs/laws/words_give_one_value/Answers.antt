use Rattle.scope_words.proofs.Words.{given_once, scope_bits_given}
use Rattle.scope_words.proofs.laws.words_give_one_value.Goals as goal

pub returns-clause-once : goal.returns-clause-once
returns-clause-once c = given_once

pub returns-clause-bits : goal.returns-clause-bits
returns-clause-bits c = scope_bits_given
