-- What is left to read, with the items so far before it, is what was to be read.
use Rattle.std.proofs.Common.{◌≡◌, length}
use Rattle.fzn_reader.specs.declared.tokens.Symbol.TheVariants.{CloseSquare}
use Rattle.fzn_parser.specs.declared.faults.What.TheVariants.{CommaOrSquare}
use Rattle.fzn_parser.specs.Grammar.{signs}
use Rattle.fzn_parser.specs.Reading.{with_front, more, basic}
use Rattle.fzn_parser.proofs.expressions.more_items.Given as goal

abbrev pub invariant-items : goal.invariant-items
invariant-items l =
    with_front l.items.items (more (length l.text) (basic (length l.text)) CloseSquare CommaOrSquare (signs l.text l.tokens))
    ≡ with_front l.initial.items.items (more (length l.text) (basic (length l.text)) CloseSquare CommaOrSquare (signs l.text l.initial.tokens))

abbrev pub decreases-items : goal.decreases-items
decreases-items l = length l.tokens
