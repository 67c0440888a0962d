-- A `.` with the digits behind it, and the exponent behind these.
use Rattle.std.proofs.Common.{sym, ◌∙◌, drop, arith}
use Rattle.std.proofs.lemmas.List.{take_rest}
use Rattle.fzn_reader.proofs.Exponents.{fraction_none, fraction_found}
use Rattle.fzn_reader.proofs.numbers.float_ending_len.Goals as goal

pub returns-then-digits-eq0 : goal.returns-then-digits-eq0
returns-then-digits-eq0 c =
    let text = c.args.text.now in
    let run = rw (take_rest text 1) at c.digits_len-digits.ensures.run in
    fraction_none text c.in-len1-up.len_at_least c.if-first-ne46.false (sym run ∙ c.if-digits-eq0.true)

pub returns : goal.returns
returns c =
    let text = c.args.text.now in
    let run = rw (take_rest text 1) at c.digits_len-digits.ensures.run in
    let rest = rw (take_rest text 1, take_rest (drop 1 text) c.digits_len-digits.result) at c.exponent_len-2.ensures in
    fraction_found text c.digits_len-digits.result c.exponent_len-2.result c.in-len1-up.len_at_least c.if-first-ne46.false run (omega arith) rest
