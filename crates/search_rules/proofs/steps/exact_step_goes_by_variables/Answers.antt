use Rattle.search_rules.proofs.StepLemmas.{extends_narrowed, extends_before, exact_after}
use Rattle.search_rules.proofs.steps.exact_step_goes_by_variables.Goals as goal

pub returns-clause-extends : goal.returns-clause-extends
returns-clause-extends g c constraint f v s narrowed u x = (extends_narrowed narrowed, extends_before narrowed)

pub returns-clause-exact : goal.returns-clause-exact
returns-clause-exact g c = exact_after (g.P.Rules.problem c.args.problem.now)
