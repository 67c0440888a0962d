use Rattle.search_state.proofs.Legal.{entries_undone, family_undone, readable_undone, trail_undone}
use Rattle.search_state.proofs.changing.undone_trails_read_back.Goals as goal

pub returns-clause-entries : goal.returns-clause-entries
returns-clause-entries c = entries_undone

pub returns-clause-family : goal.returns-clause-family
returns-clause-family c =
    family_undone (record { domains = c.narrowed_domains.ensures.domains; family = c.narrowed_domains.ensures.family })

pub returns-clause-readable : goal.returns-clause-readable
returns-clause-readable c =
    readable_undone (record { domains = c.narrowed_domains.ensures.domains; family = c.narrowed_domains.ensures.family })

pub returns-clause-trail : goal.returns-clause-trail
returns-clause-trail c =
    trail_undone (record { domains = c.narrowed_domains.ensures.domains; family = c.narrowed_domains.ensures.family })
