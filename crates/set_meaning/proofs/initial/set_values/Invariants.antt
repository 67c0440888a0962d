use Rattle.std.proofs.Common.{◌≡◌, ◌++◌, map, drop}
use Rattle.set_meaning.specs.declared.kinds.Value.TheVariants as variants
use Rattle.set_meaning.proofs.initial.set_values.Given as goal

abbrev pub invariant-loop-set : goal.invariant-loop-set
invariant-loop-set l = l.values.items ++ map variants.Set (drop l.set-index l.set-items) ≡ map variants.Set l.set-items
