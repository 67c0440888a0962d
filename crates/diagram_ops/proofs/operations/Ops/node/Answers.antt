use Rattle.diagram_arena.specs.Table.{IsReduced}
use Rattle.diagram_arena.specs.Arena.{table}
use Rattle.diagram_ops.proofs.Results.{node_parts, node_asks, node_reach, made_unmarked, on_err_arena}
use Rattle.diagram_ops.proofs.Memos.{memo_grows}
use Rattle.diagram_ops.proofs.operations.Ops.node.Goals as goal

pub invariant_of-self : goal.invariant_of-self
invariant_of-self c = record { reduced = c.make.ensures.reduced; memo = memo_grows _ _ _ c.make.ensures.grows c.self.invariant.memo }

pub returns-clause-stays : goal.returns-clause-stays
returns-clause-stays c = rw (← c.self.view_is) (record {
  reduced = c.make.ensures.reduced;
  grows = c.make.ensures.grows;
  keeps = c.make.ensures.keeps;
  unmarked = made_unmarked _ _ c.args.bit c.args.lo c.args.hi c.make.result c.make.ensures.made (on_err_arena c.make.result _ _ c.make.ensures.err);
  untagged = c.make.ensures.untagged;
  limit = c.make.ensures.limit;
  counts = c.make.ensures.counts;
  units = c.make.ensures.units_kept;
  made = c.make.ensures.made_counted;
})

pub returns-clause-parts : goal.returns-clause-parts
returns-clause-parts c =
    node_parts (table c.args.self.now.arena) (table c.make.new.self.arena) c.args.bit c.args.lo c.args.hi c.make.result
    (rw (← c.self.view_is) c.make.ensures.joins) (rw (← c.self.view_is) c.make.ensures.only_new)

pub returns-clause-asks : goal.returns-clause-asks
returns-clause-asks c =
    let was : IsReduced (table c.args.self.now.arena) = rw (← c.self.view_is) c.self.invariant.reduced in
    node_asks (table c.args.self.now.arena) (table c.make.new.self.arena) was c.make.ensures.reduced c.args.bit c.args.lo c.args.hi c.make.result c.requires
    (rw (← c.self.view_is) c.make.ensures.joins)

pub returns-clause-reach : goal.returns-clause-reach
returns-clause-reach c =
    let was : IsReduced (table c.args.self.now.arena) = rw (← c.self.view_is) c.self.invariant.reduced in
    node_reach (table c.args.self.now.arena) (table c.make.new.self.arena) was c.make.ensures.reduced c.args.bit c.args.lo c.args.hi c.make.result c.requires
    (rw (← c.self.view_is) c.make.ensures.joins) (rw (← c.self.view_is) c.make.ensures.only_new)
