use Rattle.std.proofs.Common.{◌≡◌, ◌++◌, drop}
use Rattle.bit_layout.proofs.Sorting.{all_places}
use Rattle.bit_layout.proofs.layout.file_places.Given as goal

abbrev pub invariant-loop-v : goal.invariant-loop-v
invariant-loop-v l = l.places.items ++ all_places l.v (drop l.v l.kinds) ≡ all_places 0 l.kinds
