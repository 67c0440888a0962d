use Rattle.std.proofs.Common.{◌∙◌, ap, subst}
use Rattle.diagram_ops.specs.declared.product.Product.{Product}
use Rattle.diagram_ops.specs.declared.product.Product.TheVariants.{Single}
use Rattle.diagram_ops.specs.Meanings.{IsJoinOf}
use Rattle.diagram_ops.proofs.Moves.{joins_zero, joins_one}
use Rattle.diagram_ops.proofs.pairs.shortcut.Goals as goal

pub returns-in-Zero-clause-found : goal.returns-in-Zero-clause-found
returns-in-Zero-clause-found c t pairs =
    subst (λ (p : Product). IsJoinOf t pairs pairs c.args.left c.args.right p) c.in-Single.is
    (joins_zero t pairs c.args.left c.args.right (c.in-Single.is ∙ ap Single c.in-Zero.is))

pub returns-in-One-clause-found : goal.returns-in-One-clause-found
returns-in-One-clause-found c t pairs = joins_one t pairs c.args.left c.args.right (c.in-Single.is ∙ ap Single c.in-One.is)
