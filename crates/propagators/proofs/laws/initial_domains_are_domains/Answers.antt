use Rattle.propagators.proofs.Moving.{initial_domains, initial_family}
use Rattle.propagators.proofs.laws.initial_domains_are_domains.Goals as goal

pub returns-clause-domains : goal.returns-clause-domains
returns-clause-domains c = initial_domains

pub returns-clause-initial : goal.returns-clause-initial
returns-clause-initial c = initial_family
