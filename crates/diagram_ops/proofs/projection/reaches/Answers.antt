use Rattle.diagram_ops.proofs.Insides.{not_false}
use Rattle.diagram_ops.proofs.projection.reaches.Goals as goal

pub returns : goal.returns
returns c off = c.are_below.ensures (not_false c.are_below.result off)
