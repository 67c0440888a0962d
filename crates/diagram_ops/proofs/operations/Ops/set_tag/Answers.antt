use Rattle.std.proofs.Common.{sym, subst}
use Rattle.diagram_arena.specs.Table.{Table, IsReduced}
use Rattle.diagram_ops.specs.Memo.{IsMemo}
use Rattle.diagram_ops.proofs.operations.Ops.set_tag.Goals as goal

pub invariant_of-self : goal.invariant_of-self
invariant_of-self c =
    let same = sym c.set_tag.ensures.table in
    record {
      reduced = subst IsReduced same c.self.invariant.reduced;
      memo = subst (λ (t : Table). IsMemo t c.self.inside.memo.entries) same c.self.invariant.memo;
    }
