use Rattle.std.proofs.Common.{refl, sym}
use Rattle.diagram_arena.specs.Arena.{table}
use Rattle.running_boxes.proofs.Resolvents.{whole_meets, meets_whole}
use Rattle.running_boxes.proofs.resolving.meet.Goals as goal

pub returns-then-is_same-clause-set : goal.returns-then-is_same-clause-set
returns-then-is_same-clause-set c = record {
  set = c.requires.set;
  values = sym (whole_meets c.args.layout.now (table c.args.ops.now.arena) c.args.v c.args.own c.args.set c.args.whole c.requires.whole (c.if-is_same.ensures.0 refl));
}

pub returns-then-is_same-2-clause-set : goal.returns-then-is_same-2-clause-set
returns-then-is_same-2-clause-set c = record {
  set = c.requires.own;
  values = sym (meets_whole c.args.layout.now (table c.args.ops.now.arena) c.args.v c.args.own c.args.set c.args.whole c.requires.whole (c.if-is_same-2.ensures.0 refl));
}
