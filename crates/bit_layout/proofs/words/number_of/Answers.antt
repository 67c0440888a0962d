use Rattle.std.proofs.Common.{◌≤◌, ◌<◌, arith, false, get_or}
use Rattle.bit_layout.proofs.Numbers.{number_step, number_small, digit_small, number_read, digits_read, below_read}
use Rattle.bit_layout.proofs.words.number_of.Goals as goal

pub overflow_mul-number : goal.overflow_mul-number
overflow_mul-number c =
    let small : c.loop-digit.number < 65536 = number_small c.args.word.now c.loop-digit.digit-index c.loop-digit.number (omega (arith, c.loop-digit-test.true)) c.requires c.loop-digit.invariant in
    omega (arith, small)

pub overflow_add-number : goal.overflow_add-number
overflow_add-number c =
    let small : c.loop-digit.number < 65536 = number_small c.args.word.now c.loop-digit.digit-index c.loop-digit.number (omega (arith, c.loop-digit-test.true)) c.requires c.loop-digit.invariant in
    let one : c.from.result ≤ 1 = digit_small (get_or c.args.word.now c.loop-digit.digit-index false) c.from.result c.from.ensures in
    omega (arith, small, one)

pub loop-digit-preserved : goal.loop-digit-preserved
loop-digit-preserved c = number_step c.args.word.now c.loop-digit.digit-index c.loop-digit.number c.from.result c.loop-digit-test.true c.from.ensures c.loop-digit.invariant

pub returns-clause-digits : goal.returns-clause-digits
returns-clause-digits c = digits_read c.args.word.now c.loop-digit.number (number_read c.args.word.now c.loop-digit.digit-index c.loop-digit.number c.loop-digit-test.false c.loop-digit.invariant)

pub returns-clause-below : goal.returns-clause-below
returns-clause-below c = below_read c.args.word.now c.loop-digit.number (number_read c.args.word.now c.loop-digit.digit-index c.loop-digit.number c.loop-digit-test.false c.loop-digit.invariant)
