use Rattle.std.proofs.Common.{take}
use Rattle.std.specs.List.{All}
use Rattle.log_rules.specs.Boxes.{IsSide}
use Rattle.log_checker.proofs.sides.are_there.Given as goal

abbrev pub invariant-loop-side : goal.invariant-loop-side
invariant-loop-side l = All (IsSide l.check.problem.now.kinds l.check.earlier.now.table) (take l.side-index l.sides)
