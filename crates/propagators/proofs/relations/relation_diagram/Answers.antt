use Rattle.std.proofs.Common.{sym, ◌∙◌}
use Rattle.propagators.proofs.OneKind.{else_scalar}
use Rattle.propagators.proofs.relations.relation_diagram.Goals as goal

pub scalar_shape-requires-clause-shape : goal.scalar_shape-requires-clause-shape
scalar_shape-requires-clause-shape c = else_scalar c.args.c.now.relation (sym c.is_set_shape.ensures ∙ c.if-is_set_shape.false) (sym c.is_card_shape.ensures ∙ c.if-is_card_shape.false)
