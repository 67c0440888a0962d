use Rattle.std.proofs.Common.{arith}
use Rattle.diagram_view.proofs.Counts.{at_most}
use Rattle.diagram_view.proofs.laws.residual_counts_are_one.Goals as goal

pub returns : goal.returns
returns c W n k one two = let up = at_most W n k one two in let down = at_most W k n two one in omega (arith, up, down)
