use Rattle.std.proofs.Common.{◌≡◌, ◌≤◌, unsigned_abs, All, sym, ap, ◌∙◌, subst, arith}
use Rattle.set_meaning.specs.Relations.{terms_of}
use Rattle.problem_limits.specs.Limits.{IsSmallTerm}
use Rattle.sweep_sums.specs.SumTables.{Adds, products}
use Rattle.sweep_sums.proofs.SumParts.{three_args, argument_small, linear_summed, room_after_products}
use Rattle.sweep_sums.proofs.sums.relations.of_linear.Goals as goal

pub add_products-requires-clause-coefficients : goal.add_products-requires-clause-coefficients
add_products-requires-clause-coefficients c =
    subst (All IsSmallTerm) (sym c.terms.ensures) (argument_small c.args.args.now 0 c.coefficients-item.result (omega arith) c.coefficients-item.is c.requires.constants)

pub add_products-requires-clause-small : goal.add_products-requires-clause-small
add_products-requires-clause-small c =
    subst (All IsSmallTerm) (sym c.terms-in-len3.ensures) (argument_small c.args.args.now 1 c.numbers-item.result (omega arith) c.numbers-item.is c.requires.constants)

pub add_argument-requires-clause-small : goal.add_argument-requires-clause-small
add_argument-requires-clause-small c = argument_small c.args.args.now 2 c.k-item.result (omega arith) c.k-item.is c.requires.constants

pub add_argument-requires-clause-room : goal.add_argument-requires-clause-room
add_argument-requires-clause-room c =
    let begun : unsigned_abs c.of-sum.result.constant ≤ 1000000000 = subst (λ n. unsigned_abs n ≤ 1000000000) (sym c.of-sum.ensures.constant) (omega arith) in
    room_after_products c.args.args.now c.coefficients-item.result c.numbers-item.result c.k-item.result c.terms.result.now c.terms-in-len3.result.now c.of-sum.result c.add_products.new.self
    (three_args c.args.args.now c.coefficients-item.result c.numbers-item.result c.k-item.result c.in-len3.len_at_least c.in-len3.len_below c.coefficients-item.is c.numbers-item.is c.k-item.is)
    c.requires.few begun c.terms-in-len3.ensures c.in_ok-add_products-in-len3.ensures

pub returns-in_ok-add_argument-in-len3 : goal.returns-in_ok-add_argument-in-len3
returns-in_ok-add_argument-in-len3 c =
    let same : products c.terms.result.now c.terms-in-len3.result.now ≡ products (terms_of c.coefficients-item.result) (terms_of c.numbers-item.result)
    = ap (λ ts. products ts c.terms-in-len3.result.now) c.terms.ensures ∙ ap (products (terms_of c.coefficients-item.result)) c.terms-in-len3.ensures in
    linear_summed c.args.comparison c.args.args.now c.coefficients-item.result c.numbers-item.result c.k-item.result c.of-sum.result c.add_products.new.self c.add_argument.new.self c.compared.result
    (three_args c.args.args.now c.coefficients-item.result c.numbers-item.result c.k-item.result c.in-len3.len_at_least c.in-len3.len_below c.coefficients-item.is c.numbers-item.is c.k-item.is)
    c.requires.constants c.requires.few (subst (λ ss. Adds ss c.of-sum.result c.add_products.new.self) same c.in_ok-add_products-in-len3.ensures) c.in_ok-add_argument-in-len3.ensures
    record {
      empty = c.of-sum.ensures.terms;
      begun = c.of-sum.ensures.constant;
      small = omega arith;
      terms = c.compared.ensures.terms;
      constant = c.compared.ensures.constant;
      comparison = c.compared.ensures.comparison;
    }
