use Rattle.pin_lists.proofs.Counting.{next_pinned, next_left}
use Rattle.pin_lists.proofs.lists.PinList.release.Goals as goal

pub unpin-requires : goal.unpin-requires
unpin-requires c = next_pinned c.args.ops.now c.loop-pin.ops c.self.inside.pins.items c.loop-pin.pins.items c.pop.new.self.items c.in-Some.pin c.loop-pin.invariant c.in-Some.ensures.items

pub loop-pin-preserved : goal.loop-pin-preserved
loop-pin-preserved c =
    next_left c.args.ops.now c.loop-pin.ops c.unpin.new.self c.self.inside.pins.items c.loop-pin.pins.items c.pop.new.self.items c.in-Some.pin c.loop-pin.invariant c.in-Some.ensures.items c.unpin.ensures
