use Rattle.std.proofs.Common.{◌≡◌, ◌++◌, drop}
use Rattle.set_shapes.specs.Passing.{places_among}
use Rattle.set_shapes.proofs.passing.places_among.Given as goal

abbrev pub invariant-loop-bit : goal.invariant-loop-bit
invariant-loop-bit l = l.places.items ++ places_among l.next (drop l.next l.own) (drop l.bit-index l.bits) ≡ places_among 0 l.own l.bits
