use Rattle.std.proofs.Common.{◌≡◌, ◌++◌, drop}
use Rattle.std.specs.List.{flat_map}
use Rattle.scope_words.specs.Words.{bits_at}
use Rattle.scope_words.proofs.scope.listed_bits.Given as goal

abbrev pub invariant-loop-v : goal.invariant-loop-v
invariant-loop-v l = l.bits.items ++ flat_map (bits_at l.layout) (drop l.v-index l.scope) ≡ flat_map (bits_at l.layout) l.scope
