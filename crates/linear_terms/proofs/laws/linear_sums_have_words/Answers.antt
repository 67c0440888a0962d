use Rattle.std.proofs.Common.{◌≡◌, ◌↔◌, true, pos, ◌+ℤ◌, [], refl, subst, arith}
use Rattle.std.proofs.lemmas.Int.{ints}
use Rattle.bit_machine.specs.Rules.{accepts}
use Rattle.linear_machine.specs.Sums.{Compares}
use Rattle.linear_machine.specs.Steps.{rules_of}
use Rattle.linear_terms.specs.Weights.{weighed_sum, least_sum_of}
use Rattle.linear_terms.proofs.Weighing.{compares_sum}
use Rattle.linear_terms.proofs.laws.linear_sums_have_words.Goals as goal

-- with no bits to read, a machine compares its constant
pub returns : goal.returns
returns c l terms constant comparison ok = (
  λ w. accepts (rules_of record { weights = []; constant = (constant +ℤ least_sum_of l.kinds terms) +ℤ weighed_sum l terms w; comparison = comparison }) [] w,
  λ values w gives.
      let base = constant +ℤ least_sum_of l.kinds terms in
      let all = base +ℤ weighed_sum l terms w in
      let law = c.accepts_by_its_sum.ensures record { weights = []; constant = all; comparison = comparison } [] w in
      let e : all +ℤ pos 0 ≡ all = omega (arith, ints) in
      compares_sum c.integers_have_offsets.ensures l values terms w comparison constant base (weighed_sum l terms w)
      (accepts (rules_of record { weights = []; constant = all; comparison = comparison }) [] w ≡ true) ok gives refl refl
      (subst (λ x. (accepts (rules_of record { weights = []; constant = all; comparison = comparison }) [] w ≡ true) ↔ Compares comparison x) e law),
)
