use Rattle.log_rules.specs.declared.reasons.Reason.TheVariants as reason
use Rattle.std.proofs.Common.{refl}
use Rattle.log_checker.proofs.Verdicts.{is_first, one_more, all_kept, node_rest, never}
use Rattle.log_checker.proofs.lines.node.Goals as goal

pub returns-then-not-is_next_node : goal.returns-then-not-is_next_node
returns-then-not-is_next_node c = is_first _ _ _ reason.Number c.requires.before (λ h. never (c.if-not-is_next_node.ensures.1 h))

pub returns-then-not-are_children : goal.returns-then-not-are_children
returns-then-not-are_children c =
    is_first _ _ _ reason.Children (one_more _ _ _ reason.Number c.requires.before (c.if-not-is_next_node.ensures.0 refl)) (λ h. never (c.if-not-are_children.ensures.1 h))

pub returns : goal.returns
returns c =
    all_kept _ _ _ (node_rest _ _ _ _ _ _ (one_more _ _ _ reason.Children (one_more _ _ _ reason.Number c.requires.before (c.if-not-is_next_node.ensures.0 refl))
    (c.if-not-are_children.ensures.0 refl)))
