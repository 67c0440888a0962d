use Rattle.diagram_ops.proofs.Memos.{answers_grow}
use Rattle.diagram_ops.proofs.Same.{on_ok_any}
use Rattle.diagram_ops.proofs.operations.Ops.join_sides.Goals as goal

pub returns-then-is_kept-clause-known : goal.returns-then-is_kept-clause-known
returns-then-is_kept-clause-known c = on_ok_any c.node.result _ (answers_grow _ _ c.args.unions.now.entries c.node.ensures.stays.grows c.requires.known)
