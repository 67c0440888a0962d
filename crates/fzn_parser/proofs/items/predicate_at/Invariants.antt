-- What is left to pass over is what was to be passed over.
use Rattle.std.proofs.Common.{◌≡◌, length}
use Rattle.fzn_parser.specs.Grammar.{signs}
use Rattle.fzn_parser.specs.Reading.{predicate}
use Rattle.fzn_parser.proofs.items.predicate_at.Given as goal

abbrev pub invariant-tokens : goal.invariant-tokens
invariant-tokens l = predicate (length l.text) (signs l.text l.tokens) ≡ predicate (length l.text) (signs l.text l.initial.tokens)

abbrev pub decreases-tokens : goal.decreases-tokens
decreases-tokens l = length l.tokens
