use Rattle.search_rules.proofs.StepLemmas.{violated_none, violated_root}
use Rattle.search_rules.proofs.steps.violated_constraint_refutes.Goals as goal

pub returns-clause-none : goal.returns-clause-none
returns-clause-none g c = violated_none (g.P.Rules.problem c.args.problem.now)

pub returns-clause-root : goal.returns-clause-root
returns-clause-root g c = violated_root (g.P.Rules.problem c.args.problem.now)
