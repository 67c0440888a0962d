use Rattle.std.proofs.Common.{take}
use Rattle.sweep_scopes.specs.Bits.{ArePlacesOf}
use Rattle.sweep_scopes.proofs.places.places_of.Given as goal

abbrev pub invariant-loop-bit : goal.invariant-loop-bit
invariant-loop-bit l = ArePlacesOf l.layout (take l.bit-index l.bits) l.places.items
