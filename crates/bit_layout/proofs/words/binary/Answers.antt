use Rattle.bit_layout.proofs.Numbers.{digits_step}
use Rattle.bit_layout.proofs.words.binary.Goals as goal

pub loop-place-preserved : goal.loop-place-preserved
loop-place-preserved c = digits_step c.args.width c.args.number c.loop-place.place c.loop-place.digits.items c.push.new.self.items c.loop-place-test.true c.in_ok-push.ensures.items c.loop-place.invariant
