use Rattle.std.proofs.Common.{sym, subst}
use Rattle.log_rules.specs.declared.nodes.Node.{Node}
use Rattle.log_rules.specs.Tables.{IsNext}
use Rattle.sweep_table.specs.Depths.{IsDepthOver}
use Rattle.sweep_table.proofs.Deepening.{kept_more}
use Rattle.sweep_table.proofs.table.Table.add.Goals as goal

pub invariant_of-self-2 : goal.invariant_of-self-2
invariant_of-self-2 c =
    let node : Node = record { place = c.args.place; lo = c.args.lo; hi = c.args.hi } in
    kept_more c.self.inside (record { entries = c.push.new.self }) (record { node = node; depth = c.depth_over-depth.result }) c.in_ok-push.ensures.items c.self.invariant
    (subst (λ table. IsNext table node) (sym c.self.view_is) c.requires)
    (subst (λ table. IsDepthOver table node c.depth_over-depth.result) (sym c.self.view_is) c.depth_over-depth.ensures)
