use Rattle.scope_words.proofs.Bits.{bit_is_of, place_within}
use Rattle.scope_words.proofs.laws.bits_of_a_scope_have_positions.Goals as goal

pub returns-clause-of_scope : goal.returns-clause-of_scope
returns-clause-of_scope c = bit_is_of

pub returns-clause-within : goal.returns-clause-within
returns-clause-within c l b p ok e = (place_within l b p ok e).0

pub returns-clause-back : goal.returns-clause-back
returns-clause-back c l b p ok e = (place_within l b p ok e).1
