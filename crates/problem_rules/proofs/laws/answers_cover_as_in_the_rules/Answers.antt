use Rattle.problem_rules.proofs.Covered.{covered_to, covered_from}
use Rattle.problem_rules.proofs.laws.answers_cover_as_in_the_rules.Goals as goal

pub returns : goal.returns
returns c p answers a = (covered_to p answers a, covered_from p answers a)
