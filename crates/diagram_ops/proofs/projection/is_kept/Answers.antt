use Rattle.diagram_ops.proofs.Kept.{absent}
use Rattle.diagram_ops.proofs.projection.is_kept.Goals as goal

pub returns-in-Err : goal.returns-in-Err
returns-in-Err c = absent c.args.keep.now c.args.bit c.in-Err.field-0 c.requires c.in-Err.ensures.position
