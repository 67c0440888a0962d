use Rattle.std.proofs.Common.{◌∙◌}
use Rattle.diagram_ops.proofs.Memos.{recalled}
use Rattle.diagram_ops.proofs.operations.Ops.recall.Goals as goal

pub returns-clause-found : goal.returns-clause-found
returns-clause-found c =
    rw (← c.self.view_is) (recalled _ c.self.inside.memo.entries c.args.question c.copied.result c.self.invariant.memo (c.copied.ensures ∙ c.peek.ensures))
