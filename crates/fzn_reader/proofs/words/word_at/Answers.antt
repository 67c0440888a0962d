-- The longest run of name bytes is the longest word, or no front of it is a word.
use Rattle.std.proofs.Common.{sym, ◌∙◌}
use Rattle.fzn_reader.proofs.LongestWords.{word_found, word_none}
use Rattle.fzn_reader.proofs.words.word_at.Goals as goal

pub returns-then-not-leads_to_letter-clause-none : goal.returns-then-not-leads_to_letter-clause-none
returns-then-not-leads_to_letter-clause-none c =
    word_none c.args.text.now c.word_len-len.result c.word_len-len.ensures (sym c.leads_to_letter.ensures ∙ c.if-not-leads_to_letter.true)

pub returns-clause-found : goal.returns-clause-found
returns-clause-found c =
    rw (c.word_kind.ensures, c.of.ensures) (word_found c.args.text.now c.word_len-len.result c.word_len-len.ensures (sym c.leads_to_letter.ensures ∙ c.if-not-leads_to_letter.false))
