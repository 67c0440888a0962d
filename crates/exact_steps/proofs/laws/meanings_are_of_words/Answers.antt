use Rattle.exact_steps.proofs.Wanted.{values_same, domain_same, diagram_same}
use Rattle.exact_steps.proofs.laws.meanings_are_of_words.Goals as goal

pub returns-clause-values : goal.returns-clause-values
returns-clause-values g c = values_same

pub returns-clause-domain : goal.returns-clause-domain
returns-clause-domain g c = domain_same

pub returns-clause-diagram : goal.returns-clause-diagram
returns-clause-diagram g c condition l scope t u r live same is = diagram_same l scope (g.C.Condition.holds condition) t u r live same is
