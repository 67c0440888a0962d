-- Digits alone, or digits and the ending of a float.
use Rattle.std.proofs.Common.{◌≡◌, sym, ◌∙◌, arith}
use Rattle.std.proofs.lemmas.List.{take_rest}
use Rattle.fzn_reader.specs.Numbers.{is_digit_in}
use Rattle.fzn_reader.proofs.Runs.{prefix_len-front}
use Rattle.fzn_reader.proofs.LongestNumbers.{decimal_none, decimal_integer, decimal_float}
use Rattle.fzn_reader.proofs.numbers.decimal_at.Goals as goal

pub returns-then-digits-eq0-clause-none : goal.returns-then-digits-eq0-clause-none
returns-then-digits-eq0-clause-none c =
    decimal_none c.args.negative c.args.text.now c.requires (sym c.digits_len-digits.ensures.run ∙ c.if-digits-eq0.true)

pub returns-then-ending-gt0-clause-found : goal.returns-then-ending-gt0-clause-found
returns-then-ending-gt0-clause-found c =
    let text = c.args.text.now in
    let ending = rw (take_rest text c.digits_len-digits.result) at c.float_ending_len-ending.ensures in
    decimal_float c.args.negative text c.digits_len-digits.result c.float_ending_len-ending.result c.requires c.digits_len-digits.ensures.run (omega arith) c.if-ending-gt0.true ending

pub int_kind-requires-clause-digits : goal.int_kind-requires-clause-digits
int_kind-requires-clause-digits c =
    prefix_len-front (is_digit_in 10) c.args.text.now c.digits_len-digits.result c.digits_len-digits.ensures.run

pub returns-clause-found : goal.returns-clause-found
returns-clause-found c =
    let text = c.args.text.now in
    let none : c.float_ending_len-ending.result ≡ 0 = omega arith in
    let ending = rw (take_rest text c.digits_len-digits.result, none) at c.float_ending_len-ending.ensures in
    rw c.int_kind.ensures (decimal_integer c.args.negative text c.digits_len-digits.result c.requires c.digits_len-digits.ensures.run (omega arith) ending)
