use Rattle.std.proofs.Common.{rules, to_z, of_z, ◌≡◌, ℤ, ◌∙◌, ap, subst, sym, FitsSigned, arith}
use Rattle.std.specs.Int.{w128}
use Rattle.std.proofs.lemmas.Int.{ints, to_z-of_z}
use Rattle.linear_machine.specs.Sums.{IsSmall}
use Rattle.linear_machine.specs.Steps.{settle}
use Rattle.linear_machine.proofs.Bounds.{small_sizes, least_low, greatest_high}
use Rattle.linear_machine.proofs.Places.{start_is, kept_new, weights_new}
use Rattle.linear_machine.proofs.linear.Linear.new.Goals as goal

pub settle-start-requires-clause-low : goal.settle-start-requires-clause-low
settle-start-requires-clause-low c =
    let s = small_sizes c.args.weights.now c.args.constant c.requires in
    let low = s.low in
    let high = s.high in
    let l = least_low c.args.weights.now in
    let g = greatest_high c.args.weights.now in
    let is = c.least_sum-least.ensures in
    omega (arith, ints)

pub settle-start-requires-clause-high : goal.settle-start-requires-clause-high
settle-start-requires-clause-high c =
    let s = small_sizes c.args.weights.now c.args.constant c.requires in
    let low = s.low in
    let high = s.high in
    let l = least_low c.args.weights.now in
    let g = greatest_high c.args.weights.now in
    let is = c.greatest_sum-greatest.ensures in
    omega (arith, ints)

pub settle-start-requires-clause-down : goal.settle-start-requires-clause-down
settle-start-requires-clause-down c =
    let s = small_sizes c.args.weights.now c.args.constant c.requires in
    let low = s.low in
    let high = s.high in
    let l = least_low c.args.weights.now in
    let g = greatest_high c.args.weights.now in
    let is = c.least_sum-least.ensures in
    omega (arith, ints)

pub settle-start-requires-clause-up : goal.settle-start-requires-clause-up
settle-start-requires-clause-up c =
    let s = small_sizes c.args.weights.now c.args.constant c.requires in
    let low = s.low in
    let high = s.high in
    let l = least_low c.args.weights.now in
    let g = greatest_high c.args.weights.now in
    let is = c.greatest_sum-greatest.ensures in
    omega (arith, ints)

pub invariant_of-result : goal.invariant_of-result
invariant_of-result c =
    let xs = c.args.weights.now in
    let fits : FitsSigned w128 c.args.constant = c.ranges.constant in
    let least : FitsSigned w128 c.least_sum-least.result = search rules in
    let greatest : FitsSigned w128 c.greatest_sum-greatest.result = search rules in
    let same : to_z w128 (of_z w128 c.args.constant) ≡ c.args.constant = to_z-of_z w128 c.args.constant fits in
    let P : ℤ → Type 0 = λ k. IsSmall xs k in
    let start = simp to_z-of_z at c.settle-start.ensures in
    kept_new _ xs c.in_ok-places.ensures (subst P (sym same) c.requires)
    (start ∙ start_is c.args.comparison xs c.args.constant c.least_sum-least.result c.greatest_sum-greatest.result c.least_sum-least.ensures c.greatest_sum-greatest.ensures ∙ ap (settle c.args.comparison xs) (sym same))

pub returns-clause-weights : goal.returns-clause-weights
returns-clause-weights c = weights_new c.in_ok-places.places.items c.args.weights.now c.in_ok-places.ensures
