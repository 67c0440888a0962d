use Rattle.diagram_ops.proofs.Insides.{inside_case}
use Rattle.diagram_ops.proofs.operations.Ops.inside.Goals as goal

pub returns-clause-inside : goal.returns-clause-inside
returns-clause-inside c = inside_case _ _ c.in_ok-leaves.leaves c.in_ok-leaves.ensures.some
