-- The exponent is `e` or `E`, a sign or none, and the digits behind it.
use Rattle.std.proofs.Common.{sym, ◌∙◌, ap, drop, arith}
use Rattle.std.specs.List.{prefix_len}
use Rattle.std.proofs.lemmas.List.{take_rest}
use Rattle.fzn_reader.specs.Numbers.{is_digit_in}
use Rattle.fzn_reader.proofs.Exponents.{exponent_none, exponent_other, exponent_found}
use Rattle.fzn_reader.proofs.numbers.exponent_len.Goals as goal

pub returns-then-not-is_exponent_letter : goal.returns-then-not-is_exponent_letter
returns-then-not-is_exponent_letter c =
    exponent_other c.args.text.now c.in-len1-up.len_at_least (sym c.is_exponent_letter.ensures ∙ c.if-not-is_exponent_letter.true)

pub returns-then-digits-eq0 : goal.returns-then-digits-eq0
returns-then-digits-eq0 c =
    let text = c.args.text.now in
    let sign = rw (take_rest text 1) at c.sign_len-sign.ensures in
    let run = rw (take_rest text 1, take_rest (drop 1 text) c.sign_len-sign.result) at c.digits_len-digits.ensures.run in
    exponent_none text (ap (λ k. prefix_len (is_digit_in 10) (drop k (drop 1 text))) (sym sign) ∙ sym run ∙ c.if-digits-eq0.true)

pub returns : goal.returns
returns c =
    let text = c.args.text.now in
    let sign = rw (take_rest text 1) at c.sign_len-sign.ensures in
    let run = rw (take_rest text 1, take_rest (drop 1 text) c.sign_len-sign.result) at c.digits_len-digits.ensures.run in
    exponent_found text c.sign_len-sign.result c.digits_len-digits.result c.in-len1-up.len_at_least (sym c.is_exponent_letter.ensures ∙ c.if-not-is_exponent_letter.false) sign run (omega arith)
