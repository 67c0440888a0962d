use Rattle.std.proofs.Common.{◌↔◌, drop}
use Rattle.std.specs.Prelude.{None}
use Rattle.log_checker.specs.Words.{Ascends}
use Rattle.log_checker.proofs.sides.is_ascending.Given as goal

abbrev pub invariant-loop-side : goal.invariant-loop-side
invariant-loop-side l = Ascends None l.sides ↔ Ascends l.last (drop l.side-index l.sides)
