use Rattle.std.proofs.Common.{sym, subst}
use Rattle.lru.specs.LruCache.{LruCache}
use Rattle.diagram_arena.specs.declared.nodes.Ref.{Ref}
use Rattle.diagram_arena.specs.Arena.{table}
use Rattle.diagram_ops.specs.declared.question.Question.{Question}
use Rattle.diagram_ops.specs.Memo.{IsMemo}
use Rattle.diagram_ops.proofs.Memos.{memo_empty}
use Rattle.diagram_ops.proofs.operations.Ops.collect.Goals as goal

pub invariant_of-self : goal.invariant_of-self
invariant_of-self c = record {
  reduced = c.reclaim.ensures.reduced;
  memo = subst (λ (m : LruCache Question Ref). IsMemo (table c.reclaim.new.self.arena) m.entries) (sym c.clear.ensures) (memo_empty (table c.reclaim.new.self.arena));
}
