use Rattle.std.proofs.Common.{take}
use Rattle.std.specs.List.{All}
use Rattle.log_checker.specs.Words.{IsResolvedAt}
use Rattle.log_checker.proofs.resolvents.are_resolved.Given as goal

abbrev pub invariant-loop-side : goal.invariant-loop-side
invariant-loop-side l =
    All (λ side. IsResolvedAt l.check.problem.now.kinds l.check.earlier.now.table l.sides l.first l.second l.pivot side.0) (take l.side-index l.named)
