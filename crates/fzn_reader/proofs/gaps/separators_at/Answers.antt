-- The longest run of separators.
use Rattle.std.proofs.Common.{sym, ◌∙◌, arith}
use Rattle.fzn_reader.proofs.LongestWords.{separators_found, separators_none}
use Rattle.fzn_reader.proofs.gaps.separators_at.Goals as goal

pub returns-then-len-eq0-clause-none : goal.returns-then-len-eq0-clause-none
returns-then-len-eq0-clause-none c =
    separators_none c.args.text.now (sym c.separators_len-len.ensures.run ∙ c.if-len-eq0.true)

pub returns-clause-found : goal.returns-clause-found
returns-clause-found c =
    separators_found c.args.text.now c.separators_len-len.result c.separators_len-len.ensures.run (omega arith)
