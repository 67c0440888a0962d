use Rattle.std.proofs.Common.{◌≡◌, ◌++◌, map}
use Rattle.std.specs.List.{range_with_len}
use Rattle.bit_layout.specs.Body.{place_of}
use Rattle.bit_layout.proofs.layout.push_places.Given as goal

abbrev pub invariant-loop-position : goal.invariant-loop-position
invariant-loop-position l = l.places.items ≡ l.initial.places.items ++ map (place_of l.variable.0 l.kind) (range_with_len 0 l.position)
