use Rattle.branching_tests.proofs.turns.bounds_at.Goals as goal

pub root_bounds-requires-clause-domain : goal.root_bounds-requires-clause-domain
root_bounds-requires-clause-domain c = c.requires.domains.each c.args.v c.domain_of-domain.result c.domain_of-domain.ensures
