use Rattle.diagram_ops.proofs.Splits.{zero_above, one_above}
use Rattle.diagram_ops.proofs.Projecting.{no_bounds}
use Rattle.diagram_ops.proofs.projection.bounds.Goals as goal

pub split-requires-clause-above : goal.split-requires-clause-above
split-requires-clause-above c = zero_above _ c.args.bound c.args.bit c.in-Zero.is c.ranges.bit.fits

pub split-requires-in-One-clause-above : goal.split-requires-in-One-clause-above
split-requires-in-One-clause-above c = one_above _ c.args.bound c.args.bit c.in-One.is c.ranges.bit.fits

pub returns-then-node-bit : goal.returns-then-node-bit
returns-then-node-bit c = no_bounds _ c.args.bound c.args.bit
