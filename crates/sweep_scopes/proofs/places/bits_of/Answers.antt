use Rattle.sweep_scopes.proofs.Bits.{bits_from}
use Rattle.sweep_scopes.proofs.places.bits_of.Goals as goal

pub returns : goal.returns
returns c = bits_from _ _ _ c.bits_of.ensures.long c.bits_of.ensures.each
