use Rattle.std.proofs.Common.{◌≤◌, sym, subst}
use Rattle.bit_layout.specs.Limits.{IsNarrow, counted_bits}
use Rattle.problem_limits.proofs.Members.{few_bits}
use Rattle.problem_limits.proofs.kinds.counted_bits.Goals as goal

pub integer_bits-requires-clause-few : goal.integer_bits-requires-clause-few
integer_bits-requires-clause-few c =
    subst (λ k. counted_bits k ≤ 16) (sym c.in-Int.is) (few_bits c.widths_are_least.ensures c.in-Int.field-0 (subst IsNarrow c.in-Int.is c.requires.narrow))
