use Rattle.search_rules.proofs.StepLemmas.{single_solves}
use Rattle.search_rules.proofs.steps.single_values_are_a_solution.Goals as goal

pub returns : goal.returns
returns g c = single_solves (g.P.Rules.problem c.args.problem.now)
