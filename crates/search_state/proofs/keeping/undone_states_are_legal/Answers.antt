use Rattle.search_state.specs.Readings.{boxes_of}
use Rattle.search_state.proofs.Changes.{DomainLaws}
use Rattle.search_state.proofs.Legal.{state_undone, state_cut}
use Rattle.search_state.proofs.keeping.undone_states_are_legal.Goals as goal

pub returns-clause-one : goal.returns-clause-one
returns-clause-one c l t answers stored old new undone state =
    let laws : DomainLaws = record { domains = c.narrowed_domains.ensures.domains; family = c.narrowed_domains.ensures.family } in
    state_undone laws c.args.p.now l t answers stored old new
    (λ e es f legal. c.undoing_keeps_the_state_legal.ensures answers (boxes_of l t stored) e es f legal) undone state

pub returns-clause-level : goal.returns-clause-level
returns-clause-level c l t answers stored k old new undone state =
    let laws : DomainLaws = record { domains = c.narrowed_domains.ensures.domains; family = c.narrowed_domains.ensures.family } in
    state_cut laws c.args.p.now l t answers stored k old new
    (λ es f legal. c.going_back_keeps_the_state_legal.ensures answers (boxes_of l t stored) es f k legal) undone state
