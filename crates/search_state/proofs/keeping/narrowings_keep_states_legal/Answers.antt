use Rattle.std.proofs.Common.{◌+◌, ◌<◌, length, ap, subst, sym}
use Rattle.exact_steps.specs.Domains.{family, values_in}
use Rattle.search_rules.specs.Trail as rules
use Rattle.domain_trail.specs.declared.entries.Reason.TheVariants as why
use Rattle.domain_trail.specs.Trail.{TrailState}
use Rattle.search_state.specs.Readings.{boxes_of, entries_of, reason_of, AreReadable}
use Rattle.search_state.proofs.Changes.{DomainLaws, narrowing_added, decision_added}
use Rattle.search_state.proofs.Legal.{not_decided, after_narrowing}
use Rattle.search_state.proofs.keeping.narrowings_keep_states_legal.Goals as goal

pub returns-clause-narrowed : goal.returns-clause-narrowed
returns-clause-narrowed c l t answers stored s v to reason kinds state can names made holds =
    let p = c.args.p.now in
    let laws : DomainLaws = record { domains = c.narrowed_domains.ensures.domains; family = c.narrowed_domains.ensures.family } in
    let bs = boxes_of l t stored in
    let es = entries_of l t stored s.entries in
    let f = family l t s.domains in
    let r = reason_of l t stored reason in
    let set = values_in l t v to in
    let within : v.0 < length s.domains = subst (λ n. v.0 < n) (sym state.readable.domains.long) can.known in
    let known : v.0 < length p.kinds = subst (λ n. v.0 < n) (ap length kinds) can.known in
    let law = c.narrowing_keeps_the_state_legal.ensures in
    let other = not_decided l t stored reason made in
    after_narrowing laws p l t answers stored s v to reason (rules.narrowing_entry es f v.0 r) state.readable can.known can.domain names
    (narrowing_added l t stored s v to reason within state.level)
    (law.legal answers bs es f v.0 set r state.legal known can.part other holds)
    (law.falls answers bs es f v.0 set r state.legal known can.part other holds)

pub returns-clause-decided : goal.returns-clause-decided
returns-clause-decided c l t answers stored s v to kinds state can rule quiet =
    let p = c.args.p.now in
    let laws : DomainLaws = record { domains = c.narrowed_domains.ensures.domains; family = c.narrowed_domains.ensures.family } in
    let at : TrailState = record s { level = s.level + 1 } in
    let are : AreReadable l t stored at = record { domains = state.readable.domains; entries = state.readable.entries; boxes = state.readable.boxes } in
    let bs = boxes_of l t stored in
    let es = entries_of l t stored s.entries in
    let f = family l t s.domains in
    let set = values_in l t v to in
    let within : v.0 < length s.domains = subst (λ n. v.0 < n) (sym state.readable.domains.long) can.known in
    let known : v.0 < length p.kinds = subst (λ n. v.0 < n) (ap length kinds) can.known in
    let law = c.decision_keeps_the_state_legal.ensures in
    after_narrowing laws p l t answers stored at v to why.Decision (rules.decision_entry es f v.0) are can.known can.domain tt
    (decision_added l t stored at v to within (ap (λ n. n + 1) state.level))
    (law.legal answers bs es f v.0 set state.legal known can.part rule quiet)
    (law.falls answers bs es f v.0 set state.legal known can.part rule quiet)
