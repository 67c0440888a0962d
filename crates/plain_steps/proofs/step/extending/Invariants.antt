use Rattle.plain_steps.specs.Task.{IsExtending}
use Rattle.plain_steps.proofs.step.extending.Given as goal

abbrev pub invariant-loop-x : goal.invariant-loop-x
invariant-loop-x g l = IsExtending (g.T.Task.plain l.task) l.constraint l.family l.variable l.x-index l.kept.items
