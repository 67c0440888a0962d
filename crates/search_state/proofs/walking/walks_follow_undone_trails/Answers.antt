use Rattle.search_state.proofs.Ways.{walk_passed, walk_resolved}
use Rattle.search_state.proofs.walking.walks_follow_undone_trails.Goals as goal

pub returns-clause-passed : goal.returns-clause-passed
returns-clause-passed c =
    walk_passed (record { domains = c.narrowed_domains.ensures.domains; family = c.narrowed_domains.ensures.family })

pub returns-clause-resolved : goal.returns-clause-resolved
returns-clause-resolved c =
    walk_resolved (record { domains = c.narrowed_domains.ensures.domains; family = c.narrowed_domains.ensures.family })
