use Rattle.std.proofs.Common.{sym, subst}
use Rattle.pin_lists.specs.Units.{Moves}
use Rattle.pin_lists.proofs.Leaving.{moved_from, moves_then, only_then}
use Rattle.box_clauses.proofs.Pinning.{listed_more}
use Rattle.box_clauses.proofs.sides.hold_all.Goals as goal

pub loop-side-preserved : goal.loop-side-preserved
loop-side-preserved c = record {
  listed = listed_more c.args.pins.now c.args.sides.now c.loop-side.side-index _ c.loop-side.pins c.hold.new.self c.loop-side-test.true c.loop-side.invariant.listed c.in_ok-hold.ensures.listed;
  moved = moves_then c.args.ops.now c.loop-side.ops c.hold.new.ops c.args.pins.now c.loop-side.pins c.hold.new.self c.loop-side.invariant.moved
      (subst (Moves c.loop-side.ops c.hold.new.ops c.loop-side.pins) (sym c.in_ok-hold.ensures.listed) (moved_from c.loop-side.ops c.hold.new.ops c.loop-side.pins _ c.in_ok-hold.ensures.gained));
  only = only_then c.args.ops.now c.loop-side.ops c.hold.new.ops c.loop-side.invariant.only c.hold.ensures.only;
}
