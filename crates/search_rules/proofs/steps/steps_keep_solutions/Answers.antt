use Rattle.search_rules.proofs.StepLemmas.{steps_keep_solution}
use Rattle.search_rules.proofs.steps.steps_keep_solutions.Goals as goal

pub returns : goal.returns
returns g c cs f a steps solution = steps_keep_solution a solution steps
