use Rattle.table_machine.proofs.Fitting.{readings_step}
use Rattle.table_machine.proofs.initial.read_initial_values.Goals as goal

pub loop-bit-preserved : goal.loop-bit-preserved
loop-bit-preserved c =
    readings_step c.args.layout.now c.loop-bit.words.items c.reading_of.new.words.items c.args.bits.now c.loop-bit.readings.items c.push.new.self.items c.loop-bit.bit-index c.in_ok-reading_of.field-0
    c.loop-bit-test.true c.loop-bit.invariant c.in_ok-reading_of.ensures.grows c.in_ok-reading_of.ensures.reading c.in_ok-push.ensures.items
