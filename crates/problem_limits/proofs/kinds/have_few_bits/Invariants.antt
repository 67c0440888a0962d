use Rattle.std.proofs.Common.{◌≡◌, ◌≤◌, take, sum_by}
use Rattle.bit_layout.specs.Limits.{counted_bits}
use Rattle.problem_limits.proofs.kinds.have_few_bits.Given as goal

-- the bits of the kinds so far, which are not too many
abbrev pub invariant-loop-kind : goal.invariant-loop-kind
invariant-loop-kind l = record {
  counted : l.bits ≡ sum_by counted_bits (take l.kind-index l.kinds);
  few : l.bits ≤ 1048576;
}
