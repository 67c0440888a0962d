use Rattle.std.proofs.Common.{take}
use Rattle.std.specs.List.{AllZip}
use Rattle.sweep_shapes.specs.Numbers.{AreNumbersWithin}
use Rattle.sweep_shapes.proofs.scalars.all_numbers_within.Given as goal

abbrev pub invariant-loop-v : goal.invariant-loop-v
invariant-loop-v l = AllZip (AreNumbersWithin l.kinds l.table l.sides) (take l.v-index l.variables) l.lists.items
