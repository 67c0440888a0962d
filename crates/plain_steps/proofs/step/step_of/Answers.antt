use Rattle.std.proofs.Common.{◌∙◌, ℕ, List, sym, subst, arith}
use Rattle.std.proofs.lemmas.Bool.{MatchBool-at_true}
use Rattle.search_rules.specs.Family.{Leaves}
use Rattle.search_rules.specs.Problem.{IsViolated}
use Rattle.plain_steps.specs.Sets.{has, family}
use Rattle.plain_steps.specs.Task.{IsSatisfiable, problem_of}
use Rattle.plain_steps.proofs.StepLemmas.{step_narrows, scoped}
use Rattle.plain_steps.proofs.step.step_of.Goals as goal

pub returns-then-not-lies : goal.returns-then-not-lies
returns-then-not-lies g c =
    step_narrows (g.T.Task.plain c.args.task.now) c.args.constraint c.args.family.now c.loop-v.v c.in_ok-kept.kept c.loop-v-test.true
    (scoped (g.T.Task.plain c.args.task.now) c.args.constraint c.loop-v.v (sym c.speaks_of.ensures ∙ c.if-speaks_of.true) (omega arith))
    (MatchBool-at_true (IsSatisfiable (g.T.Task.plain c.args.task.now) c.args.constraint c.args.family.now)
    (IsViolated (problem_of (g.T.Task.plain c.args.task.now)) c.args.constraint (family c.args.family.now))
    c.if-not-branch.false c.in_ok-satisfiable.ensures)
    c.in_ok-kept.ensures
    (subst (λ (set : List ℕ). Leaves (has set) (has c.in_ok-kept.kept)) c.set_of.ensures
    (subst (λ (kept : List ℕ). Leaves (has c.set_of.result.now) (has kept)) c.items.ensures c.if-not-lies.ensures))
