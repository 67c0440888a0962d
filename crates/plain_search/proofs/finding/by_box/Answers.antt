use Rattle.std.proofs.Common.{ℕ, List, length, sym, ap, ◌∙◌, subst}
use Rattle.search_rules.specs.Walk.{IsConflictBox, of_box}
use Rattle.plain_steps.specs.Sets.{family}
use Rattle.plain_steps.specs.Steps.{IsBoxStepOf}
use Rattle.plain_steps.specs.Task.{problem_of}
use Rattle.plain_steps.specs.declared.step.Step.{Step}
use Rattle.plain_search.proofs.finding.by_box.Goals as goal

pub returns-in_ok-table_copied-in-Conflict : goal.returns-in_ok-table_copied-in-Conflict
returns-in_ok-table_copied-in-Conflict g c boxes stored = (
  ap length c.in_ok-table_copied-in-Conflict.ensures ∙ c.requires.sides,
  subst (λ (b : List (List ℕ)). IsConflictBox (problem_of (g.T.Task.plain c.args.task.now)) boxes (family c.args.family.now) (family b))
      (sym c.in_ok-table_copied-in-Conflict.ensures)
      (of_box stored
      (subst (λ (s : Step). IsBoxStepOf c.args.sides.now c.args.family.now s) c.in-Conflict.is c.in_ok-box_step.ensures)),
)
