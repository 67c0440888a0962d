use Rattle.exact_steps.proofs.Replacing.{domains_replaced, family_replaced}
use Rattle.exact_steps.proofs.laws.narrowed_domains.Goals as goal

pub returns-clause-domains : goal.returns-clause-domains
returns-clause-domains c = domains_replaced

pub returns-clause-family : goal.returns-clause-family
returns-clause-family c = family_replaced
