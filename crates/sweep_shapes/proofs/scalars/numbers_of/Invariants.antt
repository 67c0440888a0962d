use Rattle.std.proofs.Common.{◌≡◌, map, take}
use Rattle.sweep_sums.specs.Forms.{number_of}
use Rattle.sweep_shapes.proofs.scalars.numbers_of.Given as goal

abbrev pub invariant-loop-value : goal.invariant-loop-value
invariant-loop-value l = l.numbers.items ≡ map number_of (take l.value-index l.values)
