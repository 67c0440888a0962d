use Rattle.diagram_ops.specs.Meanings.{rank}
use Rattle.diagram_ops.proofs.pairs.Pairs.+split.Given as goal

abbrev pub decreases-split : goal.decreases-split
decreases-split l = rank l.p
