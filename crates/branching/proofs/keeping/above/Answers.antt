use Rattle.diagram_arena.specs.Arena.{table}
use Rattle.branching.proofs.Restricting.{can_put, keeps_above}
use Rattle.branching.proofs.keeping.above.Goals as goal

pub put-requires : goal.put-requires
put-requires c = can_put (table c.args.ops.now.arena) c.args.f c.args.hi c.args.bit c.requires c.ranges.bit.fits

pub returns : goal.returns
returns c =
    keeps_above c.args.ops.now c.put.new.ops c.args.f c.args.hi c.args.bit c.put.result c.requires c.put.ensures.joins c.put.ensures.stays c.put.ensures.full c.put.ensures.parts
