use Rattle.std.proofs.Common.{◌≡◌, ◌≤◌, take, sum_by}
use Rattle.fzn_model.specs.FaultsOf.{bits_at}
use Rattle.fzn_model.proofs.constraints.have_many_bits.Given as goal

-- the bits of the variables so far, which are not too many
abbrev pub invariant-loop-variable : goal.invariant-loop-variable
invariant-loop-variable l = record {
  counted : l.bits ≡ sum_by (bits_at l.kinds) (take l.variable-index l.scope);
  few : l.bits ≤ 2048;
}
