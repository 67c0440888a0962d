-- Where the parts of a tree lie.
use Rattle.fzn_parser.proofs.Laid.{in_order, within, fault_within, solves_last}
use Rattle.fzn_parser.proofs.SmallIntegers.{small}
use Rattle.fzn_parser.proofs.laws.trees_are_in_order.Goals as goal

pub returns-clause-in_order : goal.returns-clause-in_order
returns-clause-in_order c text tokens tree h m =
    in_order text tokens tree (c.tokens_are_told_by_the_text.ensures.in_order text tokens h) m

pub returns-clause-within : goal.returns-clause-within
returns-clause-within c text tokens tree h m =
    within text tokens tree (c.tokens_are_told_by_the_text.ensures.in_order text tokens h) m

pub returns-clause-fault_within : goal.returns-clause-fault_within
returns-clause-fault_within c text tokens fault h f =
    fault_within text tokens fault (c.tokens_are_told_by_the_text.ensures.in_order text tokens h) f

pub returns-clause-solves_last : goal.returns-clause-solves_last
returns-clause-solves_last c = solves_last

pub returns-clause-small : goal.returns-clause-small
returns-clause-small c text tokens tree h m =
    small text tokens tree (c.tokens_are_told_by_the_text.ensures.forms text tokens h) m
