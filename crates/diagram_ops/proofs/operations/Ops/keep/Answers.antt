use Rattle.diagram_ops.proofs.Memos.{memo_puts}
use Rattle.diagram_ops.proofs.operations.Ops.keep.Goals as goal

pub invariant_of-self : goal.invariant_of-self
invariant_of-self c = record {
  reduced = c.self.invariant.reduced;
  memo = memo_puts _ c.self.inside.memo c.put.new.self c.args.question c.args.r c.put.result c.self.invariant.memo
      (rw c.self.view_is c.requires) c.put.ensures.entries c.put.ensures.err;
}
