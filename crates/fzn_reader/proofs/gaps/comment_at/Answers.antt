-- The rest of the line behind `%`.
use Rattle.std.proofs.lemmas.List.{take_rest}
use Rattle.std.proofs.lemmas.Bool.{ne_eqb}
use Rattle.fzn_reader.proofs.LongestWords.{comment_found, comment_none}
use Rattle.fzn_reader.proofs.gaps.comment_at.Goals as goal

pub returns-then-first-ne37-clause-none : goal.returns-then-first-ne37-clause-none
returns-then-first-ne37-clause-none c = comment_none c.args.text.now (λ _. ne_eqb _ 37 c.if-first-ne37.true)

pub returns-clause-found : goal.returns-clause-found
returns-clause-found c =
    comment_found c.args.text.now c.line_len.result c.in-len1-up.len_at_least c.if-first-ne37.false (rw (take_rest c.args.text.now 1) at c.line_len.ensures.run)
