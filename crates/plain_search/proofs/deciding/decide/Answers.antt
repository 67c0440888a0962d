use Rattle.std.proofs.Common.{◌≡◌, ℕ, ◌+◌, ◌<◌, ◌≤◌, ◌∷◌, [], List, length, get_or, refl, sym, ap, ◌∙◌, subst, inl, arith}
use Rattle.search_rules.specs.Family.{HasValue, put}
use Rattle.search_rules.specs.Trail.{Entry, Decision, IsPart, decision_entry, top}
use Rattle.plain_steps.specs.Sets.{has, family}
use Rattle.plain_steps.specs.Task.{Decides}
use Rattle.plain_search.specs.State.{entries_of, boxes_of}
use Rattle.plain_search.specs.Moves.{IsSolved, IsLone, HasTwo, IsLeast}
use Rattle.plain_search.proofs.DecideLemmas.{length-entries, solved, two_value, value_part, decision, firsts}
use Rattle.plain_search.proofs.TurnLemmas.{further}
use Rattle.plain_search.proofs.deciding.decide.Goals as goal

pub overflow_add-level : goal.overflow_add-level
overflow_add-level g c =
    let low : top (entries_of c.args.trail.now.changes.items) ≤ length (entries_of c.args.trail.now.changes.items) =
    c.trails_stay_within.ensures.levels (boxes_of c.args.boxes.now) (entries_of c.args.trail.now.changes.items)
    (family c.args.trail.now.domains.items) c.requires.state.legal.trail in
    omega (arith, length-entries c.args.trail.now.changes.items, c.level-level.ensures)

pub returns-in_ok-first_values-in-None : goal.returns-in_ok-first_values-in-None
returns-in_ok-first_values-in-None g c =
    let p = g.T.Task.plain c.args.task.now in
    let es : List (Entry ℕ) = entries_of c.args.trail.now.changes.items in
    let sets : List (List ℕ) = c.args.trail.now.domains.items in (
      subst (λ (values : List ℕ). IsSolved p c.args.trail.now values)
          (sym (c.in_ok-first_values-in-None.ensures ∙ ap firsts c.deref-in-None.ensures.value))
          (solved p c.args.trail.now c.requires.state.sets
          (c.trails_stay_within.ensures.initial (boxes_of c.args.boxes.now) es (family sets) c.requires.state.legal.trail)
          (c.trails_stay_within.ensures.values (boxes_of c.args.boxes.now) es (family sets) c.requires.state.legal.trail c.requires.values)
          (subst (λ (sets : List (List ℕ)). (v : ℕ) → v < length sets → IsLone (get_or sets v [])) c.deref.ensures.value c.in-None.ensures)
          c.requires.satisfiable),
      refl,
    )

pub returns-in_ok-change-in-Some : goal.returns-in_ok-change-in-Some
returns-in_ok-change-in-Some g c =
    let p = g.T.Task.plain c.args.task.now in
    let es : List (Entry ℕ) = entries_of c.args.trail.now.changes.items in
    let sets : List (List ℕ) = c.args.trail.now.domains.items in
    let v : ℕ = c.in-Some.var in
    let law = c.decision_keeps_the_state_legal.ensures in
    let found : (v < length sets) × HasTwo (get_or sets v []) × ((u : ℕ) → u < v → IsLone (get_or sets u [])) =
    subst (λ (sets : List (List ℕ)). (v < length sets) × HasTwo (get_or sets v []) × ((u : ℕ) → u < v → IsLone (get_or sets u [])))
    c.deref.ensures.value c.in-Some.ensures in
    let set_is : c.set_of.result.now ≡ get_or sets v [] =
    c.set_of.ensures ∙ ap (λ (f : List (List ℕ)). get_or f v []) c.deref-in-Some.ensures.value in
    let least : IsLeast (get_or sets v []) c.least_of.result =
    subst (λ (set : List ℕ). HasValue (has set) → IsLeast set c.least_of.result) set_is c.least_of.ensures
    (two_value (get_or sets v []) found.1) in
    let part : IsPart (has c.in_ok-kept-in-Some.kept) (family sets v) =
    subst (λ (s : List ℕ). IsPart (has s) (family sets v)) (sym c.in_ok-kept-in-Some.ensures)
    (value_part sets v c.least_of.result found.0 found.1 least.there) in
    let rule : Decides (family sets) v (has c.in_ok-kept-in-Some.kept) =
    subst (λ (s : List ℕ). Decides (family sets) v (has s)) (sym c.in_ok-kept-in-Some.ensures)
    (decision sets v c.least_of.result found.0 least found.2) in
    let known : v < length p.sets = omega (arith, found.0, c.requires.state.sets) in
    let goes_on =
    further p c.args.boxes.now c.args.trail.now c.change.new.self
    (decision_entry es (family sets) v ∷ es)
    (put (family sets) v (has c.in_ok-kept-in-Some.kept))
    (c.in_ok-change-in-Some.ensures.entry
    ∙ ap (λ (l : ℕ). record { var = v; before = family sets v; level = l + 1; reason = Decision } ∷ es) c.level-level.ensures)
    c.in_ok-change-in-Some.ensures.family
    (law.legal [] (boxes_of c.args.boxes.now) es (family sets) v (has c.in_ok-kept-in-Some.kept)
    c.requires.state.legal known part rule c.requires.quiet)
    (law.falls [] (boxes_of c.args.boxes.now) es (family sets) v (has c.in_ok-kept-in-Some.kept)
    c.requires.state.legal known part rule c.requires.quiet)
    (c.in_ok-change-in-Some.ensures.sets ∙ c.requires.state.sets)
    (c.in_ok-change-in-Some.ensures.fits (length p.sets) known tt c.requires.state.fits)
    c.requires.state.sides in
    (goes_on, inl refl)
