-- Each byte is a digit, and the number of all digits is at least that of the first ones.
use Rattle.std.proofs.Common.{◌≡◌, ◌+◌, ◌*◌, take, arith}
use Rattle.std.specs.Str.Parse.{digits_value}
use Rattle.std.proofs.lemmas.List.Sums.{prefix_len_passes}
use Rattle.std.proofs.lemmas.Int.Digits.{digits_value_more}
use Rattle.fzn_reader.specs.Numbers.{is_digit_in}
use Rattle.fzn_reader.proofs.Values.{digits_value_front}
use Rattle.fzn_reader.proofs.numbers.natural_of.Goals as goal

pub digit_value-requires-clause-digit : goal.digit_value-requires-clause-digit
digit_value-requires-clause-digit c =
    prefix_len_passes (is_digit_in c.args.base) c.args.digits.now c.loop-digit.digit-index 0 (omega arith)

pub returns-then-number-gt-INT_LIMIT : goal.returns-then-number-gt-INT_LIMIT
returns-then-number-gt-INT_LIMIT c =
    let i = c.loop-digit.digit-index in
    let digits = c.args.digits.now in
    let more = digits_value_more c.args.base digits i (omega arith) in
    let number : c.loop-digit.number * c.from.result + c.digit_value.result ≡ digits_value c.args.base (take (i + 1) digits) = cc in
    omega (arith, number, digits_value_front c.args.base (i + 1) digits (omega arith))

pub loop-digit-preserved : goal.loop-digit-preserved
loop-digit-preserved c =
    let i = c.loop-digit.digit-index in
    let digits = c.args.digits.now in
    let more = digits_value_more c.args.base digits i (omega arith) in
    let number : c.loop-digit.number * c.from.result + c.digit_value.result ≡ digits_value c.args.base (take (i + 1) digits) = cc in
    (number, omega arith)
