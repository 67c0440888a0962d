use Rattle.std.proofs.Common.{rules, to_z, of_z, ◌≡◌, ◌+◌, ◌<◌, ◌^◌, pos, ◌-ℤ◌, drop, length, get_or, sum_by, unsigned_abs, arith}
use Rattle.std.specs.Int.{w128, int_min, int_max}
use Rattle.std.proofs.lemmas.Int.{ints}
use Rattle.linear_machine.specs.Steps.{least_sum, greatest_sum}
use Rattle.linear_machine.proofs.Bounds.{least_low, least_part, least_rest, greatest_high, greatest_part, greatest_rest}
use Rattle.linear_machine.proofs.Places.{places_turn}
use Rattle.linear_machine.proofs.linear.places_of.Goals as goal

pub overflow_sub-least_behind : goal.overflow_sub-least_behind
overflow_sub-least_behind c =
    let xs = c.args.weights.now in
    let i = c.loop-weight.weight-index in
    let within : i < length xs = omega arith in
    let is : c.min-least_behind.result ≡ int_min (get_or xs i (pos 0)) (pos 0) = search rules in
    let rest = least_rest xs i within in
    let high = least_low (drop (i + 1) xs) in
    let low = least_part xs (i + 1) in
    let small : sum_by unsigned_abs xs < 2 ^ 126 = c.requires in
    let here = c.loop-weight.invariant.least in
    omega (arith, ints)

pub overflow_sub-greatest_behind : goal.overflow_sub-greatest_behind
overflow_sub-greatest_behind c =
    let xs = c.args.weights.now in
    let i = c.loop-weight.weight-index in
    let within : i < length xs = omega arith in
    let is : c.max-greatest_behind.result ≡ int_max (get_or xs i (pos 0)) (pos 0) = search rules in
    let rest = greatest_rest xs i within in
    let low = greatest_high (drop (i + 1) xs) in
    let high = greatest_part xs (i + 1) in
    let small : sum_by unsigned_abs xs < 2 ^ 126 = c.requires in
    let here = c.loop-weight.invariant.greatest in
    omega (arith, ints)

pub loop-weight-preserved : goal.loop-weight-preserved
loop-weight-preserved c =
    let xs = c.args.weights.now in
    let i = c.loop-weight.weight-index in
    let within : i < length xs = omega arith in
    let min_is : c.min-least_behind.result ≡ int_min (get_or xs i (pos 0)) (pos 0) = search rules in
    let max_is : c.max-greatest_behind.result ≡ int_max (get_or xs i (pos 0)) (pos 0) = search rules in
    let low_rest = least_rest xs i within in
    let high_rest = greatest_rest xs i within in
    let a = least_low (drop (i + 1) xs) in
    let b = least_part xs (i + 1) in
    let d = greatest_high (drop (i + 1) xs) in
    let e = greatest_part xs (i + 1) in
    let small : sum_by unsigned_abs xs < 2 ^ 126 = c.requires in
    let low_here = c.loop-weight.invariant.least in
    let high_here = c.loop-weight.invariant.greatest in
    let low : to_z w128 (of_z w128 (to_z w128 c.loop-weight.least_behind-bits -ℤ to_z w128 (of_z w128 c.min-least_behind.result))) ≡ least_sum (drop (i + 1) xs) = omega (arith, ints) in
    let high : to_z w128 (of_z w128 (to_z w128 c.loop-weight.greatest_behind-bits -ℤ to_z w128 (of_z w128 c.max-greatest_behind.result))) ≡ greatest_sum (drop (i + 1) xs) = omega (arith, ints) in
    record { least = low; greatest = high; made = places_turn xs i c.loop-weight.places.items c.push.new.self.items _ within c.loop-weight.invariant.made c.in_ok-push.ensures.items (search rules) low high }
