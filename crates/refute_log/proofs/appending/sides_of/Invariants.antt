use Rattle.std.proofs.Common.{◌≡◌, ◌++◌, drop}
use Rattle.std.specs.List.{AllByRecursion}
use Rattle.log_text.specs.Spelling.{IsSide}
use Rattle.refute_log.specs.Lines.{numbered}
use Rattle.refute_log.proofs.appending.sides_of.Given as goal

abbrev pub invariant-loop-variable : goal.invariant-loop-variable
invariant-loop-variable l = (l.listed.items ++ numbered (drop l.variable-index l.sides) ≡ numbered l.sides) × AllByRecursion IsSide l.listed.items
