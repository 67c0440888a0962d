use Rattle.std.proofs.Common.{◌≡◌, ◌+◌, ◌*◌, ◌≤◌, ◌^◌, pos, ◌+ℤ◌, ◌*ℤ◌, drop, sum_by, unsigned_abs}
use Rattle.diagram_arena.specs.Table.{Word}
use Rattle.linear_machine.specs.Sums.{sum_of_true}
use Rattle.linear_terms.specs.Weights.{weigh}
use Rattle.linear_terms.proofs.sums.add_bits.Given as goal

abbrev pub invariant-loop-i : goal.invariant-loop-i
invariant-loop-i l = record {
  sums : (w : Word) → (sum_of_true l.bits l.weights w +ℤ (l.coefficient *ℤ pos (weigh l.kind (drop l.i l.own) w))) ≡ (sum_of_true l.bits l.initial.weights w +ℤ (l.coefficient *ℤ pos (weigh l.kind l.own w)));
  sizes : sum_by unsigned_abs l.weights ≤ sum_by unsigned_abs l.initial.weights + l.i * 2 ^ 45;
}
