use Rattle.diagram_arena.specs.Arena.{triple_of}
use Rattle.diagram_ops.proofs.Splits.{split_zero, split_one, split_there, split_below}
use Rattle.diagram_ops.proofs.split.split.Goals as goal

pub returns-in-Zero : goal.returns-in-Zero
returns-in-Zero c = split_zero _ c.args.r c.args.bit c.in-Zero.is c.ranges.bit.fits

pub returns-in-One : goal.returns-in-One
returns-in-One c = split_one _ c.args.r c.args.bit c.in-One.is c.ranges.bit.fits

pub returns-then-node-bit : goal.returns-then-node-bit
returns-then-node-bit c =
    split_there _ c.node-node.ensures.reduced c.args.r c.args.bit c.in-Node.id (triple_of c.node-node.result.now) c.in-Node.is c.node-node.ensures.stands.at c.if-node-bit.true

pub returns-else-node-bit : goal.returns-else-node-bit
returns-else-node-bit c =
    split_below _ c.node-node.ensures.reduced c.args.r c.args.bit c.in-Node.id (triple_of c.node-node.result.now) c.requires.live c.in-Node.is c.node-node.ensures.stands.at
    c.requires.above c.if-node-bit.false
