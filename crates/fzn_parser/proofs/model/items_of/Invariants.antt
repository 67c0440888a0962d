-- What is left to read, with the items so far before it, is what was to be read.
use Rattle.std.proofs.Common.{◌≡◌, length, []}
use Rattle.fzn_parser.specs.Grammar.{signs}
use Rattle.fzn_parser.specs.Reading.{with_items, model}
use Rattle.fzn_parser.proofs.model.items_of.Given as goal

abbrev pub invariant-items : goal.invariant-items
invariant-items l = with_items l.items.items (model (length l.text) 100 (signs l.text l.tokens)) ≡ with_items [] (model (length l.text) 100 (signs l.text l.initial.tokens))

abbrev pub decreases-items : goal.decreases-items
decreases-items l = length l.tokens
