use Rattle.problem_rules.proofs.Variables.{constraint_here}
use Rattle.problem_rules.proofs.laws.constraints_are_those_of_the_rules.Goals as goal

pub returns : goal.returns
returns c = constraint_here
