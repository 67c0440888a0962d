use Rattle.std.proofs.Common.{sym, ap, subst}
use Rattle.diagram_arena.specs.Table.{Table, IsReduced}
use Rattle.diagram_arena.specs.Arena.{table}
use Rattle.diagram_ops.specs.Memo.{IsMemo}
use Rattle.diagram_ops.proofs.Pinned.{pinned_arena}
use Rattle.diagram_ops.proofs.operations.Ops.pin.Goals as goal

pub invariant_of-self : goal.invariant_of-self
invariant_of-self c =
    let same = sym (ap table (pinned_arena c.pin.result _ _ _ c.pin.ensures.pinned c.pin.ensures.err)) in
    record {
      reduced = subst IsReduced same c.self.invariant.reduced;
      memo = subst (λ (t : Table). IsMemo t c.self.inside.memo.entries) same c.self.invariant.memo;
    }
