use Rattle.search_state.proofs.Changes.{narrowing_added, decision_added, family_with}
use Rattle.search_state.proofs.Legal.{readable_narrowed}
use Rattle.search_state.proofs.changing.narrowings_read_as_entries.Goals as goal

pub returns-clause-entries : goal.returns-clause-entries
returns-clause-entries c = narrowing_added

pub returns-clause-decision : goal.returns-clause-decision
returns-clause-decision c = decision_added

pub returns-clause-family : goal.returns-clause-family
returns-clause-family c l t s v to reason are within =
    family_with (record { domains = c.narrowed_domains.ensures.domains; family = c.narrowed_domains.ensures.family }) l t s.domains v to are within

pub returns-clause-readable : goal.returns-clause-readable
returns-clause-readable c =
    readable_narrowed (record { domains = c.narrowed_domains.ensures.domains; family = c.narrowed_domains.ensures.family })
