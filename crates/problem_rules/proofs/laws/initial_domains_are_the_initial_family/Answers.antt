use Rattle.problem_rules.proofs.Starting.{initial_family}
use Rattle.problem_rules.proofs.laws.initial_domains_are_the_initial_family.Goals as goal

pub returns : goal.returns
returns c = initial_family
