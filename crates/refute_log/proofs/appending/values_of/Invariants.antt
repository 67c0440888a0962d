use Rattle.std.proofs.Common.{◌≡◌, ◌++◌, map, drop}
use Rattle.refute_log.specs.Lines.{log_value}
use Rattle.refute_log.proofs.appending.values_of.Given as goal

abbrev pub invariant-loop-value : goal.invariant-loop-value
invariant-loop-value l = l.listed.items ++ map log_value (drop l.value-index l.values) ≡ map log_value l.values
