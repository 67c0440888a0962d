use Rattle.std.proofs.Common.{take}
use Rattle.std.specs.List.{All}
use Rattle.problem_limits.specs.Limits.{IsWithinLimits}
use Rattle.problem_limits.proofs.problems.all_within_limits.Given as goal

abbrev pub invariant-loop-c : goal.invariant-loop-c
invariant-loop-c l = All (IsWithinLimits l.kinds) (take l.c-index l.constraints)
