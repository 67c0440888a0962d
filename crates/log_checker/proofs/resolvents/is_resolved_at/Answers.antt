use Rattle.log_checker.proofs.Boxes.{fits_node, resolved_at_pivot, resolved_elsewhere}
use Rattle.log_checker.proofs.resolvents.is_resolved_at.Goals as goal

pub lies_at-requires-clause-inside : goal.lies_at-requires-clause-inside
lies_at-requires-clause-inside c = fits_node _ _ _ _ _ c.node_of-inside.ensures c.requires.sides

pub lies_at-requires-clause-first : goal.lies_at-requires-clause-first
lies_at-requires-clause-first c = fits_node _ _ _ _ _ c.node_of-first.ensures c.requires.first

pub lies_at-requires-clause-second : goal.lies_at-requires-clause-second
lies_at-requires-clause-second c = fits_node _ _ _ _ _ c.node_of-second.ensures c.requires.second

pub lies_at-requires-2-clause-inside : goal.lies_at-requires-2-clause-inside
lies_at-requires-2-clause-inside c = fits_node _ _ _ _ _ c.node_of-inside.ensures c.requires.sides

pub lies_at-requires-2-clause-first : goal.lies_at-requires-2-clause-first
lies_at-requires-2-clause-first c = fits_node _ _ _ _ _ c.node_of-first.ensures c.requires.first

pub lies_at-requires-2-clause-second : goal.lies_at-requires-2-clause-second
lies_at-requires-2-clause-second c = fits_node _ _ _ _ _ c.node_of-first.ensures c.requires.first

pub lies_at-requires-3-clause-inside : goal.lies_at-requires-3-clause-inside
lies_at-requires-3-clause-inside c = fits_node _ _ _ _ _ c.node_of-inside.ensures c.requires.sides

pub lies_at-requires-3-clause-first : goal.lies_at-requires-3-clause-first
lies_at-requires-3-clause-first c = fits_node _ _ _ _ _ c.node_of-second.ensures c.requires.second

pub lies_at-requires-3-clause-second : goal.lies_at-requires-3-clause-second
lies_at-requires-3-clause-second c = fits_node _ _ _ _ _ c.node_of-second.ensures c.requires.second

pub returns-then-variable-pivot : goal.returns-then-variable-pivot
returns-then-variable-pivot c =
    resolved_at_pivot _ _ (λ word. c.walks_go_to_children.ensures.everything _ word) _ _ _ _ _ _ _ _ _ c.requires.sides c.requires.first c.requires.second
    c.node_of-inside.ensures c.node_of-first.ensures c.node_of-second.ensures c.if-variable-pivot.true c.in_ok-in_union.ensures

pub returns : goal.returns
returns c =
    rw c.both.ensures (resolved_elsewhere _ _ (λ word. c.walks_go_to_children.ensures.everything _ word) _ _ _ _ _ _ _ _ _ _ c.requires.sides c.requires.first c.requires.second
    c.node_of-inside.ensures c.node_of-first.ensures c.node_of-second.ensures c.if-variable-pivot.false c.in_ok-in_first.ensures c.in_ok-in_second.ensures)
