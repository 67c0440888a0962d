use Rattle.std.proofs.Common.{◌≡◌, ◌≤◌, ◌++◌, drop, unsigned_abs, All}
use Rattle.sweep_sums.specs.Weights.{weights_of}
use Rattle.sweep_sums.proofs.weights.weights_of.Given as goal

abbrev pub invariant-loop-v : goal.invariant-loop-v
invariant-loop-v l = record {
  weights : l.weights.items ++ weights_of l.terms (drop l.v-index l.variables) ≡ weights_of l.terms l.variables;
  small : All (λ w. unsigned_abs w ≤ 4194304000000000) l.weights.items;
}
