-- The recursion goes down in the brackets that may still be opened; within one bracket each function calls a lower one.
use Rattle.std.proofs.Common.{◌≡◌, length, ◌+◌, ◌*◌}
use Rattle.fzn_parser.specs.Grammar.{signs}
use Rattle.fzn_parser.specs.Reading.{with_front, more, argument, nested}
use Rattle.fzn_parser.proofs.annotations.+arguments.Given as goal

abbrev pub decreases-nested_at : goal.decreases-nested_at
decreases-nested_at l = 8 * l.depth

abbrev pub decreases-call_at : goal.decreases-call_at
decreases-call_at l = 8 * l.depth + 1

abbrev pub decreases-call_argument_at : goal.decreases-call_argument_at
decreases-call_argument_at l = 8 * l.depth + 2

abbrev pub decreases-list_argument_at : goal.decreases-list_argument_at
decreases-list_argument_at l = 8 * l.depth + 2

abbrev pub decreases-argument_form_at : goal.decreases-argument_form_at
decreases-argument_form_at l = 8 * l.depth + 3

abbrev pub decreases-argument_at : goal.decreases-argument_at
decreases-argument_at l = 8 * l.depth + 4

abbrev pub decreases-more_arguments : goal.decreases-more_arguments
decreases-more_arguments l = 8 * l.depth + 5

abbrev pub decreases-arguments_from_first : goal.decreases-arguments_from_first
decreases-arguments_from_first l = 8 * l.depth + 6

abbrev pub decreases-arguments_at : goal.decreases-arguments_at
decreases-arguments_at l = 8 * l.depth + 7

abbrev pub invariant-more_arguments-arguments : goal.invariant-more_arguments-arguments
invariant-more_arguments-arguments l =
    with_front l.arguments.items (more (length l.text) (argument (length l.text) (nested (length l.text) l.depth)) l.close l.what (signs l.text l.tokens))
    ≡ with_front l.initial.arguments.items (more (length l.text) (argument (length l.text) (nested (length l.text) l.depth)) l.close l.what (signs l.text l.initial.tokens))

abbrev pub decreases-more_arguments-arguments : goal.decreases-more_arguments-arguments
decreases-more_arguments-arguments l = length l.tokens
