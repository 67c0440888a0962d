use Rattle.std.proofs.Common.{rules, to_z, ◌≡◌, ◌+◌, ◌<◌, ◌^◌, pos, drop, length, get_or, sum_by, unsigned_abs, arith}
use Rattle.std.specs.Int.{w128, int_min}
use Rattle.std.proofs.lemmas.Int.{ints}
use Rattle.linear_machine.proofs.Bounds.{least_low, least_sized, least_turn}
use Rattle.linear_machine.proofs.linear.least_sum.Goals as goal

pub overflow_add-least : goal.overflow_add-least
overflow_add-least c =
    let xs = c.args.weights.now in
    let i = c.loop-weight.weight-index in
    let within : i < length xs = omega arith in
    let is : c.min-least.result ≡ int_min (get_or xs i (pos 0)) (pos 0) = search rules in
    let turn = least_turn xs i (to_z w128 c.loop-weight.least-bits) within c.loop-weight.invariant.whole in
    let behind = least_low (drop (i + 1) xs) in
    let all = least_sized xs in
    let small : sum_by unsigned_abs xs < 2 ^ 126 = c.requires in
    omega (arith, ints)

pub loop-weight-preserved : goal.loop-weight-preserved
loop-weight-preserved c =
    let xs = c.args.weights.now in
    let i = c.loop-weight.weight-index in
    let within : i < length xs = omega arith in
    let is : c.min-least.result ≡ int_min (get_or xs i (pos 0)) (pos 0) = search rules in
    let turn = least_turn xs i (to_z w128 c.loop-weight.least-bits) within c.loop-weight.invariant.whole in
    let behind = least_low (drop (i + 1) xs) in
    let all = least_sized xs in
    let small : sum_by unsigned_abs xs < 2 ^ 126 = c.requires in
    record { whole = omega (arith, ints); low = omega (arith, ints) }
