use Rattle.std.proofs.Common.{ℕ, Bool, ◌<◌, ◌∷◌, true, length, sym, ap, ◌∙◌, subst}
use Rattle.set_meaning.specs.declared.kinds.Value.{Value}
use Rattle.exact_steps.specs.Domains.{family}
use Rattle.search_rules.specs.Trail as rules
use Rattle.search_rules.specs.Family.{put, without}
use Rattle.search_rules.specs.State.{IsLegal}
use Rattle.problem_rules.specs.Posed.{problem_of}
use Rattle.box_clauses.specs.Boxes.{box_of}
use Rattle.box_clauses.specs.Stored.{stored as stored_box}
use Rattle.search_state.specs.Readings.{boxes_of, entries_of}
use Rattle.search_state.specs.Turns.{measure_of}
use Rattle.search_state.proofs.Changes.{DomainLaws, entries_among_more}
use Rattle.search_state.proofs.Legal.{reads_as, state_with, state_turned}
use Rattle.search_state.proofs.keeping.conflict_turns_keep_states_legal.Goals as goal

pub returns-clause-learned : goal.returns-clause-learned
returns-clause-learned c l t u answers stored old new sides line v k state turn gone is are =
    let p = c.args.p.now in
    let bs = boxes_of l t stored in
    let es = entries_of l t stored old.entries in
    let f = family l t old.domains in
    let b = box_of l u sides in
    state_with p l u answers stored new sides line true is.readable is.level are
    (subst (λ xs. IsLegal (problem_of p) answers (record { sides = b; learned = true } ∷ xs) (entries_of l u stored new.entries) (family l u new.domains)) (sym gone.boxes)
    (reads_as (IsLegal (problem_of p) answers (record { sides = b; learned = true } ∷ bs)) (rules.cut k es) (entries_of l u stored new.entries) (rules.back k es f) (family l u new.domains) gone.entries gone.family
    (c.conflict_turn.ensures.learned answers bs es f b turn.level v k state.legal turn.derives turn.back)))

pub returns-clause-narrowed : goal.returns-clause-narrowed
returns-clause-narrowed c l t u answers stored old new sides line k v to id kinds state turn gone is are domain left last =
    let p = c.args.p.now in
    let laws : DomainLaws = record { domains = c.narrowed_domains.ensures.domains; family = c.narrowed_domains.ensures.family } in
    let bs = boxes_of l t stored in
    let es = entries_of l t stored old.entries in
    let f = family l t old.domains in
    let b = box_of l u sides in
    let learned = returns-clause-learned c l t u answers stored old new sides line v.0 k state turn gone is are in
    let known : v.0 < length p.kinds = c.derived_box_narrows.ensures.known bs es f b turn.level v.0 state.legal.trail turn.derives in
    let e = rules.narrowing_entry (rules.cut k es) (rules.back k es f) v.0 (rules.ByBox b) in
    let g : ℕ → Value → Bool = put (rules.back k es f) v.0 (without (rules.back k es f v.0) (b v.0)) in
    state_turned laws p l u answers stored new sides line v to id (rules.cut k es) (rules.back k es f) (measure_of p l t stored old) learned
    (subst (λ n. v.0 < n) (sym (ap length kinds)) known) domain last
    (entries_among_more l u stored (stored_box sides line true) new.entries is.readable.entries ∙ gone.entries)
    gone.family left
    (subst (λ xs. IsLegal (problem_of p) answers (record { sides = b; learned = true } ∷ xs) (e ∷ rules.cut k es) g) (sym gone.boxes)
    (c.conflict_turn.ensures.narrowed answers bs es f b turn.level v.0 k state.legal turn.derives turn.back))
    (c.conflict_turn.ensures.falls answers bs es f b turn.level v.0 k state.legal turn.derives turn.back)
