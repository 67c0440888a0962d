use Rattle.std.proofs.Common.{ℕ, ◌<◌}
use Rattle.search_rules.specs.Problem.{IsLeft}
use Rattle.plain_steps.specs.Sets.{family}
use Rattle.plain_steps.specs.Task.{problem_of, IsSatisfiable}
use Rattle.plain_search.proofs.finding.by_constraints.Given as goal

abbrev pub invariant-loop-constraint : goal.invariant-loop-constraint
invariant-loop-constraint g l =
    (c : ℕ) → c < l.constraint
    → IsLeft (problem_of (g.T.Task.plain l.task)) c (family l.family) × IsSatisfiable (g.T.Task.plain l.task) c l.family
