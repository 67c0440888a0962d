use Rattle.std.proofs.Common.{◌≡◌, map, take}
use Rattle.log_rules.specs.States.{value_in}
use Rattle.log_checker.proofs.values.values_of.Given as goal

abbrev pub invariant-loop-value : goal.invariant-loop-value
invariant-loop-value l = l.values.items ≡ map value_in (take l.value-index l.written)
