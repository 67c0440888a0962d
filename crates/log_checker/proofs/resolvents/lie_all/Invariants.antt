use Rattle.std.proofs.Common.{take}
use Rattle.std.specs.List.{All}
use Rattle.log_checker.specs.Words.{LiesAt}
use Rattle.log_checker.proofs.resolvents.lie_all.Given as goal

abbrev pub invariant-loop-side : goal.invariant-loop-side
invariant-loop-side l = All (λ side. LiesAt l.check.problem.now.kinds l.check.earlier.now.table side.0 1 side.1 side.1) (take l.side-index l.sides)
