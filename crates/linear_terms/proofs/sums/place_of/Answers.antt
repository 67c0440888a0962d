use Rattle.linear_terms.proofs.Adding.{bit_is_found, bit_is_there}
use Rattle.linear_terms.proofs.sums.place_of.Goals as goal

pub unreachable-requires : goal.unreachable-requires
unreachable-requires c = bit_is_there c.args.bits.now c.args.bit c.in-Err.field-0 c.requires.ascend c.in-Err.ensures.position c.requires.listed

pub returns-clause-within : goal.returns-clause-within
returns-clause-within c = (bit_is_found c.args.bits.now c.args.bit c.in-Ok.place c.requires.ascend c.in-Ok.ensures.position).0

pub returns-clause-here : goal.returns-clause-here
returns-clause-here c = (bit_is_found c.args.bits.now c.args.bit c.in-Ok.place c.requires.ascend c.in-Ok.ensures.position).1
