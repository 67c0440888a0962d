use Rattle.std.proofs.Common.{arith}
use Rattle.bit_layout.proofs.Making.{few_kinds}
use Rattle.branching.proofs.deciding.variable.Goals as goal

pub overflow_cast-result : goal.overflow_cast-result
overflow_cast-result c =
    let few = few_kinds c.args.layout.now.kinds c.obeys_order.ensures.limits in
    let within = c.requires in
    omega (arith, few, within)
