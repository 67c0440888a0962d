use Rattle.std.proofs.Common.{◌+◌, ◌<◌, ◌≤◌, drop, length, arith}
use Rattle.std.proofs.lemmas.Int.{ints}
use Rattle.linear_machine.specs.Sums.{sum_of_true}
use Rattle.linear_terms.specs.Weights.{weighed_sum}
use Rattle.linear_terms.proofs.Adding.{no_sizes}
use Rattle.linear_terms.proofs.Weighing.{terms_from, weighed_turn, weighed_none}
use Rattle.linear_terms.proofs.terms.add_terms.Goals as goal

pub loop-term-init : goal.loop-term-init
loop-term-init c = record {
  sums = λ w. let none = no_sizes c.args.bits.now c.args.weights.now w c.requires.none in omega (arith, ints);
  sizes = omega (arith, c.requires.none);
}

pub loop-term-preserved : goal.loop-term-preserved
loop-term-preserved c =
    let terms = c.args.terms.now in
    let i = c.loop-term.term-index in
    let within : i < length terms = omega arith in
    record {
      sums = λ w. weighed_turn c.args.layout.now (drop i terms) (drop (i + 1) terms) _ w (sum_of_true c.args.bits.now c.loop-term.weights w) (sum_of_true c.args.bits.now c.add_term.new.weights w)
          (weighed_sum c.args.layout.now terms w) (terms_from terms i _ within) (c.add_term.ensures.sums w) (c.loop-term.invariant.sums w);
      sizes = let before = c.loop-term.invariant.sizes in let step = c.add_term.ensures.sizes in omega (arith, before, step);
    }

pub returns-clause-sums : goal.returns-clause-sums
returns-clause-sums c w =
    let at_end : length c.args.terms.now ≤ c.loop-term.term-index = omega arith in
    let none = weighed_none c.args.layout.now c.args.terms.now c.loop-term.term-index w at_end in
    let is = c.loop-term.invariant.sums w in
    omega (arith, ints, none, is)
