use Rattle.std.proofs.Common.{rules, ◌+◌, ◌-◌, ◌<◌, ◌≤◌, pos, ◌+ℤ◌, ◌*ℤ◌, drop, length, get_or, FitsSigned, w64, ◌∙◌, ap, arith}
use Rattle.std.specs.Int.{w128}
use Rattle.std.proofs.lemmas.Int.{to_z-of_z}
use Rattle.linear_machine.specs.Sums.{sum_of_true}
use Rattle.linear_terms.specs.Weights.{worth, weigh}
use Rattle.linear_terms.proofs.Adding.{weigh_turn, bit_turn, weigh_none, nothing_left}
use Rattle.linear_terms.proofs.sums.add_bits.Goals as goal

pub loop-i-preserved : goal.loop-i-preserved
loop-i-preserved c =
    let own = c.args.own.now in
    let k = c.args.kind.now in
    let i = c.loop-i.i in
    let within : i < length own = omega arith in
    let fits : FitsSigned w64 c.args.coefficient = c.ranges.coefficient in
    let fits_amount : FitsSigned w128 c.amount-amount.result = search rules in
    record {
      sums = λ w. simp to_z-of_z (bit_turn (w (get_or own i 0)) c.args.coefficient c.amount-amount.result (worth k (length own - 1 - i)) (weigh k (drop i own) w) (weigh k (drop (i + 1) own) w)
          (sum_of_true c.args.bits.now c.loop-i.weights w) (sum_of_true c.args.bits.now c.add.new.weights w) (sum_of_true c.args.bits.now c.args.weights.now w +ℤ (c.args.coefficient *ℤ pos (weigh k own w)))
          (weigh_turn k own i (length own - 1 - i) w within (omega arith)) (simp to_z-of_z at c.amount-amount.ensures.value ∙ ap (λ n. c.args.coefficient *ℤ pos n) c.worth.ensures) (simp to_z-of_z at (c.add.ensures.sums w)) (simp to_z-of_z at (c.loop-i.invariant.sums w)));
      sizes = let step = simp to_z-of_z at c.add.ensures.sizes in let one = c.amount-amount.ensures.size in let before = c.loop-i.invariant.sizes in omega arith;
    }

pub returns-clause-sums : goal.returns-clause-sums
returns-clause-sums c w =
    let fits : FitsSigned w64 c.args.coefficient = c.ranges.coefficient in
    let at_end : length c.args.own.now ≤ c.loop-i.i = omega arith in
    let is = simp to_z-of_z at (c.loop-i.invariant.sums w) in
    nothing_left c.args.coefficient (sum_of_true c.args.bits.now c.loop-i.weights w) _ (weigh c.args.kind.now (drop c.loop-i.i c.args.own.now) w) (weigh_none c.args.kind.now c.args.own.now c.loop-i.i w at_end) is
