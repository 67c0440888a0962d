use Rattle.std.proofs.Common.{◌≡◌, ◌≤◌, take, sum_by}
use Rattle.problem_limits.specs.Limits.{width_in}
use Rattle.problem_limits.proofs.constraints.are_narrow.Given as goal

-- the bits of the variables so far, which are not too many
abbrev pub invariant-loop-variable : goal.invariant-loop-variable
invariant-loop-variable l = record {
  counted : l.bits ≡ sum_by (width_in l.kinds) (take l.variable-index l.scope);
  few : l.bits ≤ 2048;
}
