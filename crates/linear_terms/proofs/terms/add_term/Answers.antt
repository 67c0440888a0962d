use Rattle.std.proofs.Common.{rules, pos, ◌+ℤ◌, ◌*ℤ◌, All, Contains, ◌∙◌, ap, sym, subst, FitsSigned, w64, arith}
use Rattle.std.proofs.lemmas.Int.{to_z-of_z}
use Rattle.linear_machine.specs.Sums.{sum_of_true}
use Rattle.linear_terms.specs.Weights.{weigh}
use Rattle.linear_terms.proofs.Counting.{worth_at, width_small}
use Rattle.linear_terms.proofs.Weighing.{kind_here, own_listed, own_long, weighed_one}
use Rattle.linear_terms.proofs.terms.add_term.Goals as goal

pub add_bits-requires-clause-listed : goal.add_bits-requires-clause-listed
add_bits-requires-clause-listed c = subst (All (Contains c.args.bits.now)) (sym c.bits_of.ensures) (own_listed c.args.layout.now c.args.bits.now c.args.term.variable c.requires.listed)

pub add_bits-requires-clause-few : goal.add_bits-requires-clause-few
add_bits-requires-clause-few c =
    let at = kind_here c.args.layout.now c.args.kinds.now c.args.term.variable.0 c.index-kinds-term.result c.requires.kinds c.requires.known c.index-kinds-term.is in
    let long = own_long c.args.layout.now c.args.term.variable c.bits_of.result.now c.bits_of.ensures in
    let small = width_small c.args.layout.now c.args.term.variable c.index-kinds-term.result c.obeys_order.ensures at in
    omega (arith, long, small)

pub add_bits-requires-clause-narrow : goal.add_bits-requires-clause-narrow
add_bits-requires-clause-narrow c behind within =
    let at = kind_here c.args.layout.now c.args.kinds.now c.args.term.variable.0 c.index-kinds-term.result c.requires.kinds c.requires.known c.index-kinds-term.is in
    let long = own_long c.args.layout.now c.args.term.variable c.bits_of.result.now c.bits_of.ensures in
    worth_at c.widths_are_least.ensures c.args.layout.now c.args.term.variable c.index-kinds-term.result behind c.obeys_order.ensures at (omega (arith, long, within))

pub returns-clause-sums : goal.returns-clause-sums
returns-clause-sums c w =
    let at = kind_here c.args.layout.now c.args.kinds.now c.args.term.variable.0 c.index-kinds-term.result c.requires.kinds c.requires.known c.index-kinds-term.is in
    let fits : FitsSigned w64 c.args.term.coefficient = search rules in
    let is = simp to_z-of_z at (c.add_bits.ensures.sums w) in
    weighed_one c.args.layout.now c.args.term c.index-kinds-term.result w (sum_of_true c.args.bits.now c.args.weights.now w) (sum_of_true c.args.bits.now c.add_bits.new.weights w) at
    (is ∙ ap (λ own. sum_of_true c.args.bits.now c.args.weights.now w +ℤ (c.args.term.coefficient *ℤ pos (weigh c.index-kinds-term.result own w))) c.bits_of.ensures)

pub returns-clause-sizes : goal.returns-clause-sizes
returns-clause-sizes c =
    let at = kind_here c.args.layout.now c.args.kinds.now c.args.term.variable.0 c.index-kinds-term.result c.requires.kinds c.requires.known c.index-kinds-term.is in
    let long = own_long c.args.layout.now c.args.term.variable c.bits_of.result.now c.bits_of.ensures in
    let small = width_small c.args.layout.now c.args.term.variable c.index-kinds-term.result c.obeys_order.ensures at in
    let step = c.add_bits.ensures.sizes in
    omega (arith, long, small, step)
