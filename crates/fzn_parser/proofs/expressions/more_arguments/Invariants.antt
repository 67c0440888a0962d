-- What is left to read, with the arguments so far before it, is what was to be read.
use Rattle.std.proofs.Common.{◌≡◌, length}
use Rattle.fzn_reader.specs.declared.tokens.Symbol.TheVariants.{CloseRound}
use Rattle.fzn_parser.specs.declared.faults.What.TheVariants.{CommaOrRound}
use Rattle.fzn_parser.specs.Grammar.{signs}
use Rattle.fzn_parser.specs.Reading.{with_front, more, expression}
use Rattle.fzn_parser.proofs.expressions.more_arguments.Given as goal

abbrev pub invariant-arguments : goal.invariant-arguments
invariant-arguments l =
    with_front l.arguments.items (more (length l.text) (expression (length l.text)) CloseRound CommaOrRound (signs l.text l.tokens))
    ≡ with_front l.initial.arguments.items (more (length l.text) (expression (length l.text)) CloseRound CommaOrRound (signs l.text l.initial.tokens))

abbrev pub decreases-arguments : goal.decreases-arguments
decreases-arguments l = length l.tokens
