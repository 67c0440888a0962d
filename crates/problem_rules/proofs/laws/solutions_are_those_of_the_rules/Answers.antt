use Rattle.std.proofs.Common.{get_or, false}
use Rattle.set_meaning.specs.declared.kinds.Value.TheVariants as value
use Rattle.problem_rules.proofs.Solutions.{values_again, solutions_same}
use Rattle.problem_rules.proofs.laws.solutions_are_those_of_the_rules.Goals as goal

pub returns-clause-same : goal.returns-clause-same
returns-clause-same c = solutions_same

pub returns-clause-each : goal.returns-clause-each
returns-clause-each c p values s = (λ v. get_or values v (value.Bool false), values_again p values s.assignment)
