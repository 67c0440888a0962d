use Rattle.std.proofs.Common.{◌≡◌, ℕ, ◌<◌, true}
use Rattle.search_rules.specs.Problem.{Extends}
use Rattle.plain_steps.specs.Sets.{family}
use Rattle.plain_steps.specs.Task.{is_scoped, problem_of}
use Rattle.plain_steps.proofs.step.step_of.Given as goal

abbrev pub invariant-loop-v : goal.invariant-loop-v
invariant-loop-v g l =
    (u : ℕ) (x : ℕ) → u < l.v → is_scoped (g.T.Task.plain l.task) l.constraint u ≡ true → family l.family u x ≡ true
    → Extends (problem_of (g.T.Task.plain l.task)) l.constraint (family l.family) u x
