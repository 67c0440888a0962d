-- What is left to read, with the numbers so far before it, is what was to be read.
use Rattle.std.proofs.Common.{◌≡◌, length}
use Rattle.fzn_reader.specs.declared.tokens.Symbol.TheVariants.{CloseCurly}
use Rattle.fzn_parser.specs.declared.faults.What.TheVariants.{CommaOrCurly}
use Rattle.fzn_parser.specs.Grammar.{signs}
use Rattle.fzn_parser.specs.Reading.{with_front, more, number}
use Rattle.fzn_parser.proofs.numbers.more_numbers.Given as goal

abbrev pub invariant-numbers : goal.invariant-numbers
invariant-numbers l =
    with_front l.numbers.items (more (length l.text) (number (length l.text)) CloseCurly CommaOrCurly (signs l.text l.tokens))
    ≡ with_front l.initial.numbers.items (more (length l.text) (number (length l.text)) CloseCurly CommaOrCurly (signs l.text l.initial.tokens))

abbrev pub decreases-numbers : goal.decreases-numbers
decreases-numbers l = length l.tokens
