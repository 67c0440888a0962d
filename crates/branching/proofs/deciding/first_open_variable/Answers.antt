use Rattle.branching.proofs.deciding.first_open_variable.Goals as goal

pub open_position-requires-clause-domain : goal.open_position-requires-clause-domain
open_position-requires-clause-domain c = c.requires.domains.each c.variable-v.result c.domain_of-domain.result c.domain_of-domain.ensures
