use Rattle.std.proofs.Common.{rules, ◌≡◌, ◌↔◌, true, ◌+ℤ◌, unsigned_abs, sum_by, FitsSigned, ◌∙◌, ap, sym, subst, arith}
use Rattle.std.specs.Int.{w128}
use Rattle.std.proofs.lemmas.Int.{to_z-of_z}
use Rattle.bit_machine.specs.Rules.{accepts}
use Rattle.linear_machine.specs.declared.comparison.Comparison.{Comparison}
use Rattle.linear_machine.specs.Sums.{Compares, sum_of_true}
use Rattle.linear_machine.specs.Steps.{rules_of}
use Rattle.linear_terms.specs.Weights.{least_sum_of, weighed_sum}
use Rattle.linear_terms.proofs.Weighing.{compares_sum}
use Rattle.linear_terms.proofs.terms.linear_over.Goals as goal

pub new-requires : goal.new-requires
new-requires c =
    let few = c.requires.small.few in
    let same = ap (sum_by unsigned_abs) c.as_slice.ensures.value in
    let sizes = c.in_ok-weights.ensures.sizes in
    let base = c.base_of-base.ensures.size in
    let fits : FitsSigned w128 c.base_of-base.result = search rules in
    simp to_z-of_z (omega (arith, few, same, sizes, base))

pub returns-clause-accepts : goal.returns-clause-accepts
returns-clause-accepts c values w gives =
    let m = c.in_ok-machine.machine in
    let l = c.args.layout.now in
    let bits = c.args.bits.now in
    let terms = c.args.terms.now in
    let fits : FitsSigned w128 c.base_of-base.result = search rules in
    let fits_constant : FitsSigned w128 c.args.constant = c.ranges.constant in
    let items : m.weights ≡ c.in_ok-weights.weights.items = c.in_ok-machine.ensures.weights ∙ c.as_slice.ensures.value in
    let sums : sum_of_true bits m.weights w ≡ weighed_sum l terms w = ap (λ xs. sum_of_true bits xs w) items ∙ c.in_ok-weights.ensures.sums w in
    let base : m.constant ≡ c.args.constant +ℤ least_sum_of l.kinds terms
    = simp to_z-of_z at c.in_ok-machine.ensures.constant ∙ simp to_z-of_z at c.base_of-base.ensures.value ∙ ap (λ ks. c.args.constant +ℤ least_sum_of ks terms) (sym c.requires.kinds) in
    let P : Comparison → Type 0 = λ q. (accepts (rules_of m) bits w ≡ true) ↔ Compares q (m.constant +ℤ sum_of_true bits m.weights w) in
    let law : (accepts (rules_of m) bits w ≡ true) ↔ Compares c.args.comparison (m.constant +ℤ sum_of_true bits m.weights w) = subst P c.in_ok-machine.ensures.comparison (c.accepts_by_its_sum.ensures m bits w) in
    compares_sum c.integers_have_offsets.ensures l values terms w c.args.comparison c.args.constant m.constant (sum_of_true bits m.weights w) (accepts (rules_of m) bits w ≡ true) c.obeys_order.ensures gives base sums law
