use Rattle.std.proofs.Common.{◌≤◌, length, arith}
use Rattle.bit_layout.proofs.Making.{few_kinds}
use Rattle.bit_layout.proofs.layout.file_places.Goals as goal

pub overflow_cast-v : goal.overflow_cast-v
overflow_cast-v c = let few : length c.args.kinds.now ≤ 1048576 = few_kinds c.args.kinds.now c.requires in omega (arith, few, c.loop-v-test.true)
