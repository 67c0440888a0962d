use Rattle.std.proofs.Common.{◌≡◌, ◌++◌, map, drop}
use Rattle.set_meaning.specs.declared.kinds.Value.TheVariants as variants
use Rattle.set_meaning.proofs.initial.int_values.Given as goal

abbrev pub invariant-loop-number : goal.invariant-loop-number
invariant-loop-number l = l.values.items ++ map variants.Int (drop l.number-index l.numbers) ≡ map variants.Int l.numbers
