use Rattle.diagram_ops.proofs.Steps.{stays_self}
use Rattle.branching.proofs.deciding.decision.Goals as goal

pub returns-in-None-clause-stays : goal.returns-in-None-clause-stays
returns-in-None-clause-stays c = stays_self c.args.ops.now c.pool.ensures.reduced
