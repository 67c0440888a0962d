use Rattle.std.proofs.Common.{◌≡◌, ◌++◌, drop}
use Rattle.std.specs.List.{flat_map}
use Rattle.sweep_scopes.specs.Bits.{bits_at}
use Rattle.sweep_scopes.proofs.places.listed_bits.Given as goal

abbrev pub invariant-loop-v : goal.invariant-loop-v
invariant-loop-v l = l.bits.items ++ flat_map (bits_at l.layout) (drop l.v-index l.sets) ≡ flat_map (bits_at l.layout) l.sets
