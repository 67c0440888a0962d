use Rattle.sweep_values.proofs.Reading.{domain_accepts}
use Rattle.sweep_values.proofs.domain.domains_accept_values.Goals as goal

pub returns : goal.returns
returns c = domain_accepts
