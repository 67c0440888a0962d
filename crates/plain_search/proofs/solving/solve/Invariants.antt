use Rattle.search_rules.specs.Measure.{measure}
use Rattle.plain_steps.specs.Sets.{family}
use Rattle.plain_steps.specs.Task.{problem_of}
use Rattle.plain_search.specs.State.{entries_of, IsState}
use Rattle.plain_search.proofs.solving.solve.Given as goal

abbrev pub invariant-loop-trail : goal.invariant-loop-trail
invariant-loop-trail g l = IsState (g.T.Task.plain l.task) l.boxes.items l.trail

abbrev pub decreases-loop-trail : goal.decreases-loop-trail
decreases-loop-trail g l =
    measure (problem_of (g.T.Task.plain l.task)) (entries_of l.trail.changes.items) (family l.trail.domains.items)
