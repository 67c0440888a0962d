use Rattle.std.proofs.Common.{sym, ap, subst}
use Rattle.diagram_arena.specs.Table.{Table, IsReduced}
use Rattle.diagram_arena.specs.Arena.{table}
use Rattle.node_reclaim.specs.Pool.{PoolState}
use Rattle.diagram_ops.specs.Memo.{IsMemo}
use Rattle.diagram_ops.proofs.operations.Ops.unpin.Goals as goal

pub invariant_of-self : goal.invariant_of-self
invariant_of-self c =
    let same = sym (ap (λ (p : PoolState). table p.arena) c.unpin.ensures.only) in
    record {
      reduced = subst IsReduced same c.self.invariant.reduced;
      memo = subst (λ (t : Table). IsMemo t c.self.inside.memo.entries) same c.self.invariant.memo;
    }
