-- A symbol of two bytes comes first, then one of one byte.
use Rattle.std.proofs.Common.{sym, ap, ◌∙◌, get_or}
use Rattle.fzn_reader.specs.Front.{symbol_of_two}
use Rattle.fzn_reader.proofs.LongestWords.{two_found, one_found, symbol_none}
use Rattle.fzn_reader.proofs.symbols.symbol_at.Goals as goal

pub returns-in-Some-clause-found : goal.returns-in-Some-clause-found
returns-in-Some-clause-found c =
    two_found c.args.text.now c.in-Some.symbol c.requires.some (ap (symbol_of_two (get_or c.args.text.now 0 0)) (sym c.second.ensures) ∙ sym c.symbol_of_two.ensures ∙ c.in-Some.is)

pub returns-in_ok-symbol-in-None-clause-found : goal.returns-in_ok-symbol-in-None-clause-found
returns-in_ok-symbol-in-None-clause-found c =
    one_found c.args.text.now c.in_ok-symbol-in-None.symbol c.requires.some (ap (symbol_of_two (get_or c.args.text.now 0 0)) (sym c.second.ensures) ∙ sym c.symbol_of_two.ensures ∙ c.in-None.is) (sym c.single.ensures ∙ c.in_ok-symbol-in-None.was)

pub returns-in_err-symbol-in-None-clause-none : goal.returns-in_err-symbol-in-None-clause-none
returns-in_err-symbol-in-None-clause-none c =
    rw c.from_residual.ensures (symbol_none c.args.text.now c.requires.some (ap (symbol_of_two (get_or c.args.text.now 0 0)) (sym c.second.ensures) ∙ sym c.symbol_of_two.ensures ∙ c.in-None.is) (sym c.single.ensures ∙ c.in_err-symbol-in-None.was))
