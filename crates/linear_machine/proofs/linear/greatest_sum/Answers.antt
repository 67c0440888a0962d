use Rattle.std.proofs.Common.{rules, to_z, ◌≡◌, ◌+◌, ◌<◌, ◌^◌, pos, drop, length, get_or, sum_by, unsigned_abs, arith}
use Rattle.std.specs.Int.{w128, int_max}
use Rattle.std.proofs.lemmas.Int.{ints}
use Rattle.linear_machine.proofs.Bounds.{greatest_high, greatest_sized, greatest_turn}
use Rattle.linear_machine.proofs.linear.greatest_sum.Goals as goal

pub overflow_add-greatest : goal.overflow_add-greatest
overflow_add-greatest c =
    let xs = c.args.weights.now in
    let i = c.loop-weight.weight-index in
    let within : i < length xs = omega arith in
    let is : c.max-greatest.result ≡ int_max (get_or xs i (pos 0)) (pos 0) = search rules in
    let turn = greatest_turn xs i (to_z w128 c.loop-weight.greatest-bits) within c.loop-weight.invariant.whole in
    let behind = greatest_high (drop (i + 1) xs) in
    let all = greatest_sized xs in
    let small : sum_by unsigned_abs xs < 2 ^ 126 = c.requires in
    omega (arith, ints)

pub loop-weight-preserved : goal.loop-weight-preserved
loop-weight-preserved c =
    let xs = c.args.weights.now in
    let i = c.loop-weight.weight-index in
    let within : i < length xs = omega arith in
    let is : c.max-greatest.result ≡ int_max (get_or xs i (pos 0)) (pos 0) = search rules in
    let turn = greatest_turn xs i (to_z w128 c.loop-weight.greatest-bits) within c.loop-weight.invariant.whole in
    let behind = greatest_high (drop (i + 1) xs) in
    let all = greatest_sized xs in
    let small : sum_by unsigned_abs xs < 2 ^ 126 = c.requires in
    record { whole = omega (arith, ints); high = omega (arith, ints) }
