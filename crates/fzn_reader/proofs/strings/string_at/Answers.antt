-- A string that closes, or an opening quote alone.
use Rattle.std.proofs.lemmas.List.{take_rest}
use Rattle.std.proofs.lemmas.Bool.{ne_eqb}
use Rattle.fzn_reader.proofs.Closings.{string_found, string_open, string_none}
use Rattle.fzn_reader.proofs.strings.string_at.Goals as goal

pub returns-then-first-ne34-clause-none : goal.returns-then-first-ne34-clause-none
returns-then-first-ne34-clause-none c = string_none c.args.text.now (λ _. ne_eqb _ 34 c.if-first-ne34.true)

pub returns-in-Some-clause-found : goal.returns-in-Some-clause-found
returns-in-Some-clause-found c =
    string_found c.args.text.now c.in-Some.len c.in-len1-up.len_at_least c.if-first-ne34.false (rw (take_rest c.args.text.now 1) at c.in-Some.ensures.found)

pub returns-in-None-clause-found : goal.returns-in-None-clause-found
returns-in-None-clause-found c =
    string_open c.args.text.now c.in-len1-up.len_at_least c.if-first-ne34.false (rw (take_rest c.args.text.now 1) at c.in-None.ensures.none)
