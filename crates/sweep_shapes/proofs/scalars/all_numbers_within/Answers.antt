use Rattle.bit_layout.proofs.Listing.{all_zip_next}
use Rattle.sweep_shapes.specs.Numbers.{AreNumbersWithin}
use Rattle.sweep_shapes.proofs.scalars.all_numbers_within.Goals as goal

pub loop-v-preserved : goal.loop-v-preserved
loop-v-preserved c =
    all_zip_next (AreNumbersWithin c.args.kinds.now c.args.table.now c.args.sides.now) c.args.variables.now c.loop-v.lists.items c.push.new.self.items c.loop-v.v-index _ c.in_ok-numbers.numbers
    c.loop-v-test.true c.in_ok-push.ensures.items c.loop-v.invariant c.in_ok-numbers.ensures
