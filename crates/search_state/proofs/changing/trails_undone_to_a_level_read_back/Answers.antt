use Rattle.search_state.proofs.Legal.{entries_cut, family_back, readable_cut, trail_cut}
use Rattle.search_state.proofs.changing.trails_undone_to_a_level_read_back.Goals as goal

pub returns-clause-entries : goal.returns-clause-entries
returns-clause-entries c = entries_cut

pub returns-clause-family : goal.returns-clause-family
returns-clause-family c =
    family_back (record { domains = c.narrowed_domains.ensures.domains; family = c.narrowed_domains.ensures.family })

pub returns-clause-readable : goal.returns-clause-readable
returns-clause-readable c =
    readable_cut (record { domains = c.narrowed_domains.ensures.domains; family = c.narrowed_domains.ensures.family })

pub returns-clause-trail : goal.returns-clause-trail
returns-clause-trail c =
    trail_cut (record { domains = c.narrowed_domains.ensures.domains; family = c.narrowed_domains.ensures.family })
