use Rattle.std.proofs.Common.{take}
use Rattle.std.specs.Prelude.{Any}
use Rattle.sweep_sums.specs.Reaching.{IsWanted}
use Rattle.sweep_sums.proofs.reaching.some_wanted.Given as goal

abbrev pub invariant-loop-total : goal.invariant-loop-total
invariant-loop-total l = Any (IsWanted l.sum l.truth) (take l.total-index l.totals) → ⊥
