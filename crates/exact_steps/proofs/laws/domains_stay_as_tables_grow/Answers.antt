use Rattle.exact_steps.proofs.Wanted.{domains_grow}
use Rattle.exact_steps.proofs.Constraints.{family_grows}
use Rattle.exact_steps.proofs.laws.domains_stay_as_tables_grow.Goals as goal

pub returns-clause-domains : goal.returns-clause-domains
returns-clause-domains c = domains_grow

pub returns-clause-same : goal.returns-clause-same
returns-clause-same c = family_grows
