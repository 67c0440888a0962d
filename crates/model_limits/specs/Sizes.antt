-- The limits on sizes of `KeepsLimits`, without that the problem is well formed. This project's own.
use Rattle.std.specs.Prelude.{◌≤◌, length, All}
use Rattle.set_meaning.specs.declared.problems.Problem.{Problem}
use Rattle.bit_layout.specs.Limits.{AreWithinLimits}
use Rattle.problem_limits.specs.Limits.{HasSmallNumbers, IsWithinLimits}

-- small integers, at most 1,048,576 bits and at most 100,000 constraints, each within the limits
pub record KeepsSizes (p : Problem) : Type 0 where
  pub kinds : AreWithinLimits p.kinds
  pub numbers : All HasSmallNumbers p.kinds
  pub constraints : All (IsWithinLimits p.kinds) p.constraints
  pub few : length p.constraints ≤ 100000
