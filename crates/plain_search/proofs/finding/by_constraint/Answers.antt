use Rattle.std.proofs.Common.{ℕ, Bool, sym, subst}
use Rattle.search_rules.specs.Walk.{IsConflictBox, of_constraint}
use Rattle.plain_steps.specs.Sets.{family}
use Rattle.plain_steps.specs.Steps.{IsStepOf}
use Rattle.plain_steps.specs.Task.{problem_of}
use Rattle.plain_steps.specs.declared.step.Step.{Step}
use Rattle.plain_search.proofs.finding.by_constraint.Goals as goal

pub returns-in_ok-conflict_box-in-Conflict : goal.returns-in_ok-conflict_box-in-Conflict
returns-in_ok-conflict_box-in-Conflict g c boxes = (
  c.in_ok-conflict_box-in-Conflict.ensures.long,
  subst (λ (b : ℕ → ℕ → Bool). IsConflictBox (problem_of (g.T.Task.plain c.args.task.now)) boxes (family c.args.family.now) b)
      (sym c.in_ok-conflict_box-in-Conflict.ensures.same)
      (of_constraint c.requires.known
      (subst (λ (s : Step). IsStepOf (g.T.Task.plain c.args.task.now) c.args.constraint c.args.family.now s) c.in-Conflict.is
      c.in_ok-step_of.ensures)),
)
