use Rattle.scope_words.proofs.Bits.{bits_once, bits_known}
use Rattle.scope_words.proofs.laws.bits_of_a_scope_are_one.Goals as goal

pub returns-clause-once : goal.returns-clause-once
returns-clause-once c = bits_once

pub returns-clause-known : goal.returns-clause-known
returns-clause-known c = bits_known
