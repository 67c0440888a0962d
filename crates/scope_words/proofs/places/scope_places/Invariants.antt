use Rattle.std.proofs.Common.{take}
use Rattle.scope_words.specs.Places.{ArePlacesOf}
use Rattle.scope_words.proofs.places.scope_places.Given as goal

abbrev pub invariant-loop-bit : goal.invariant-loop-bit
invariant-loop-bit l = ArePlacesOf l.layout (take l.bit-index l.bits) l.places.items
