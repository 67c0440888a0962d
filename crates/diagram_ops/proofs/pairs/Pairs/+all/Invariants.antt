use Rattle.std.proofs.Common.{length}
use Rattle.diagram_ops.proofs.pairs.Pairs.+all.Given as goal

abbrev pub decreases-all : goal.decreases-all
decreases-all l = length l.refs.now
