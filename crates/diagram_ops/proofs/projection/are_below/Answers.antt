use Rattle.std.proofs.lemmas.Bool.{ltb-true}
use Rattle.diagram_ops.proofs.Kept.{below_last}
use Rattle.diagram_ops.proofs.projection.are_below.Goals as goal

pub returns-in-Some : goal.returns-in-Some
returns-in-Some c less b on = below_last c.args.keep.now c.in-Some.last.now c.args.bit c.requires c.in-Some.ensures.value (ltb-true _ _ less) b on
