use Rattle.sweep_shapes.proofs.Summing.{numbers_are}
use Rattle.sweep_shapes.proofs.scalars.numbers_within.Goals as goal

pub returns : goal.returns
returns c =
    numbers_are c.args.kinds.now c.args.table.now c.args.sides.now c.args.v c.in_ok-values.values.items c.as_slice.result.now c.in_ok-numbers.numbers.items c.of.result c.in_ok-values.ensures
    c.as_slice.ensures.value c.in_ok-numbers.ensures c.of.ensures
