use Rattle.plain_steps.specs.Sets.{IsTable}
use Rattle.plain_steps.specs.Steps.{conflict_sides}
use Rattle.plain_steps.proofs.reason.conflict_box.Given as goal

abbrev pub invariant-loop-v : goal.invariant-loop-v
invariant-loop-v g l = IsTable (conflict_sides (g.T.Task.plain l.task) l.constraint l.family) l.v l.sides.items
