use Rattle.search_rules.proofs.StepLemmas.{exact_is_part, narrowed_is_part, left_is_exact}
use Rattle.search_rules.proofs.steps.parts_of_steps.Goals as goal

pub returns-clause-exact : goal.returns-clause-exact
returns-clause-exact g c = exact_is_part (g.P.Rules.problem c.args.problem.now)

pub returns-clause-narrowed : goal.returns-clause-narrowed
returns-clause-narrowed g c = narrowed_is_part (g.P.Rules.problem c.args.problem.now)

pub returns-clause-left : goal.returns-clause-left
returns-clause-left g c constraint f =
    (left_is_exact (g.P.Rules.problem c.args.problem.now) constraint f, (λ exact. exact.sound))
