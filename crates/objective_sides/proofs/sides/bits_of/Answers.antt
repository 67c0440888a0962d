use Rattle.scope_words.proofs.Bits.{bits_from}
use Rattle.objective_sides.proofs.sides.bits_of.Goals as goal

pub returns-clause-bits : goal.returns-clause-bits
returns-clause-bits c = bits_from c.args.layout.now c.args.v c.bits_of.result.now c.bits_of.ensures.long c.bits_of.ensures.each
