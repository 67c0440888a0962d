-- The digits of the base behind the prefix.
use Rattle.std.proofs.Common.{sym, ◌∙◌, arith}
use Rattle.std.proofs.lemmas.List.{take_rest}
use Rattle.fzn_reader.specs.Numbers.{is_digit_in}
use Rattle.fzn_reader.proofs.Runs.{prefix_len-front}
use Rattle.fzn_reader.proofs.LongestNumbers.{based_none, based_found}
use Rattle.fzn_reader.proofs.numbers.based_at.Goals as goal

pub returns-then-len-eq0-clause-found : goal.returns-then-len-eq0-clause-found
returns-then-len-eq0-clause-found c =
    let text = c.args.text.now in
    let run = rw (take_rest text 2) at c.digits_len-len.ensures.run in
    based_none c.args.negative text c.args.base c.requires (sym run ∙ c.if-len-eq0.true)

pub int_kind-requires-clause-digits : goal.int_kind-requires-clause-digits
int_kind-requires-clause-digits c = prefix_len-front (is_digit_in c.args.base) _ c.digits_len-len.result c.digits_len-len.ensures.run

pub returns-clause-found : goal.returns-clause-found
returns-clause-found c =
    let text = c.args.text.now in
    let run = rw (take_rest text 2) at c.digits_len-len.ensures.run in
    let kind = rw (take_rest text 2) at c.int_kind.ensures in
    rw kind (based_found c.args.negative text c.args.base c.digits_len-len.result c.requires run (omega arith))

pub returns-then-len-eq0-clause-cause : goal.returns-then-len-eq0-clause-cause
returns-then-len-eq0-clause-cause c =
    let run = rw (take_rest c.args.text.now 2) at c.digits_len-len.ensures.run in
    record { base = c.args.base; named = c.requires; none = sym run ∙ c.if-len-eq0.true }
