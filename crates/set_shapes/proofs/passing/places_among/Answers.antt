use Rattle.set_shapes.proofs.PassedBits.{places_next}
use Rattle.set_shapes.proofs.passing.places_among.Goals as goal

pub loop-bit-preserved : goal.loop-bit-preserved
loop-bit-preserved c =
    places_next c.args.own.now c.args.bits.now c.loop-bit.places.items c.push.new.self.items c.loop-bit.next c.loop-bit.bit-index c.met-place.result c.loop-bit-test.true c.loop-bit.invariant c.met-place.ensures c.in_ok-push.ensures.items
