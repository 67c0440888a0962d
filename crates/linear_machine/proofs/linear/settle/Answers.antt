use Rattle.std.proofs.Common.{◌+ℤ◌, ◌∙◌, ap, FitsSigned, arith}
use Rattle.std.specs.Int.{w128}
use Rattle.std.specs.Option.{option_map_or}
use Rattle.std.proofs.lemmas.Int.{ints, to_z-of_z}
use Rattle.linear_machine.specs.declared.state.State.TheVariants.{Open, Settled}
use Rattle.linear_machine.proofs.linear.settle.Goals as goal

pub returns-in-Some : goal.returns-in-Some
returns-in-Some c =
    let sum : FitsSigned w128 c.args.sum = c.ranges.sum in
    let least : FitsSigned w128 c.args.least = c.ranges.least in
    let greatest : FitsSigned w128 c.args.greatest = c.ranges.greatest in
    let low : FitsSigned w128 (c.args.sum +ℤ c.args.least) = omega (arith, ints) in
    let high : FitsSigned w128 (c.args.sum +ℤ c.args.greatest) = omega (arith, ints) in
    let is = simp to_z-of_z at c.in-Some.ensures in
    ap (λ o. option_map_or Settled o (Open c.args.sum)) is

pub returns-in-None : goal.returns-in-None
returns-in-None c =
    let sum : FitsSigned w128 c.args.sum = c.ranges.sum in
    let least : FitsSigned w128 c.args.least = c.ranges.least in
    let greatest : FitsSigned w128 c.args.greatest = c.ranges.greatest in
    let low : FitsSigned w128 (c.args.sum +ℤ c.args.least) = omega (arith, ints) in
    let high : FitsSigned w128 (c.args.sum +ℤ c.args.greatest) = omega (arith, ints) in
    let is = simp to_z-of_z at c.in-None.ensures in
    ap Open (to_z-of_z w128 c.args.sum sum) ∙ ap (λ o. option_map_or Settled o (Open c.args.sum)) is
