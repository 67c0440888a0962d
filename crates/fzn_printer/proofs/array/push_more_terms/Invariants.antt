use Rattle.std.proofs.Common.{◌≡◌, ◌++◌, drop}
use Rattle.fzn_printer.specs.Block.{more_terms_text}
use Rattle.fzn_printer.proofs.array.push_more_terms.Given as goal

abbrev pub invariant-loop-term : goal.invariant-loop-term
invariant-loop-term l = l.out.items ++ more_terms_text (drop l.term-index l.terms) l.values ≡ l.initial.out.items ++ more_terms_text l.terms l.values
