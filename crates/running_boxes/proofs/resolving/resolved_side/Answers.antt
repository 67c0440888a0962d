use Rattle.std.proofs.Common.{refl}
use Rattle.diagram_arena.specs.Arena.{table}
use Rattle.exact_steps.specs.Domains.{values_in}
use Rattle.value_sets.specs.Sets.{both, either}
use Rattle.running_boxes.proofs.OneSide.{united_values, met_values, side_from, made_from}
use Rattle.running_boxes.proofs.Made.{parts_of_values}
use Rattle.running_boxes.proofs.resolving.resolved_side.Goals.{then-side-v+in_ok-set, else-side-v+in_ok-set-2}
use Rattle.running_boxes.proofs.resolving.resolved_side.Goals as goal

pub union-requires-clause-first : goal.union-requires-clause-first
union-requires-clause-first c = c.requires.running.each c.args.side.var c.set_at-own.result c.set_at-own.ensures

pub meet-requires-clause-whole : goal.meet-requires-clause-whole
meet-requires-clause-whole c = c.requires.start.each c.args.side.var c.set_at.result c.set_at.ensures

pub meet-requires-clause-own : goal.meet-requires-clause-own
meet-requires-clause-own c = c.requires.running.each c.args.side.var c.set_at-own.result c.set_at-own.ensures

pub returns-in_err-set-2-clause-made : goal.returns-in_err-set-2-clause-made
returns-in_err-set-2-clause-made c =
    made_from c.args.layout.now (table c.args.ops.now.arena) c.args.running.now c.args.v c.args.side c.set_at-own.result c.set_at-own.ensures
    (both (values_in c.args.layout.now (table c.args.ops.now.arena) c.args.side.var c.set_at-own.result) (values_in c.args.layout.now (table c.args.ops.now.arena) c.args.side.var c.args.side.set))
    (met_values c.args.layout.now (table c.args.ops.now.arena) c.args.running.now c.args.v c.args.side c.set_at-own.result c.set_at-own.ensures c.if-side-v.false)
    c.meet.new.ops c.meet.new.ops refl c.meet.ensures.made

pub returns-clause-side : goal.returns-clause-side
returns-clause-side c = elim c.if-side-v.branch [
  | then-side-v+in_ok-set w ↦
      side_from c.args.layout.now (table c.args.ops.now.arena) c.args.running.now c.args.v c.args.side c.set_at-own.result c.set_at-own.ensures
      (either (values_in c.args.layout.now (table c.args.ops.now.arena) c.args.side.var c.set_at-own.result) (values_in c.args.layout.now (table c.args.ops.now.arena) c.args.side.var c.args.side.set))
      (united_values c.args.layout.now (table c.args.ops.now.arena) c.args.running.now c.args.v c.args.side c.set_at-own.result c.set_at-own.ensures w.if-side-v.true)
      w.union.new.ops c.if-side-v.ops w.ops-is c.requires.side.known w.in_ok-set.set c.if-side-v.set w.set-is w.in_ok-set.ensures.set
  | else-side-v+in_ok-set-2 w ↦
      side_from c.args.layout.now (table c.args.ops.now.arena) c.args.running.now c.args.v c.args.side c.set_at-own.result c.set_at-own.ensures
      (both (values_in c.args.layout.now (table c.args.ops.now.arena) c.args.side.var c.set_at-own.result) (values_in c.args.layout.now (table c.args.ops.now.arena) c.args.side.var c.args.side.set))
      (met_values c.args.layout.now (table c.args.ops.now.arena) c.args.running.now c.args.v c.args.side c.set_at-own.result c.set_at-own.ensures w.if-side-v.false)
      w.meet.new.ops c.if-side-v.ops w.ops-is c.requires.side.known w.in_ok-set-2.set c.if-side-v.set w.set-is w.in_ok-set-2.ensures.set
]

pub returns-clause-made : goal.returns-clause-made
returns-clause-made c = elim c.if-side-v.branch [
  | then-side-v+in_ok-set w ↦
      made_from c.args.layout.now (table c.args.ops.now.arena) c.args.running.now c.args.v c.args.side c.set_at-own.result c.set_at-own.ensures
      (either (values_in c.args.layout.now (table c.args.ops.now.arena) c.args.side.var c.set_at-own.result) (values_in c.args.layout.now (table c.args.ops.now.arena) c.args.side.var c.args.side.set))
      (united_values c.args.layout.now (table c.args.ops.now.arena) c.args.running.now c.args.v c.args.side c.set_at-own.result c.set_at-own.ensures w.if-side-v.true)
      w.union.new.ops c.if-side-v.ops w.ops-is
      (parts_of_values c.args.layout.now c.args.side.var
      (either (values_in c.args.layout.now (table c.args.ops.now.arena) c.args.side.var c.set_at-own.result) (values_in c.args.layout.now (table c.args.ops.now.arena) c.args.side.var c.args.side.set))
      (table c.args.ops.now.arena) (table w.union.new.ops.arena) w.union.ensures.parts)
  | else-side-v+in_ok-set-2 w ↦
      made_from c.args.layout.now (table c.args.ops.now.arena) c.args.running.now c.args.v c.args.side c.set_at-own.result c.set_at-own.ensures
      (both (values_in c.args.layout.now (table c.args.ops.now.arena) c.args.side.var c.set_at-own.result) (values_in c.args.layout.now (table c.args.ops.now.arena) c.args.side.var c.args.side.set))
      (met_values c.args.layout.now (table c.args.ops.now.arena) c.args.running.now c.args.v c.args.side c.set_at-own.result c.set_at-own.ensures w.if-side-v.false)
      w.meet.new.ops c.if-side-v.ops w.ops-is w.meet.ensures.made
]
