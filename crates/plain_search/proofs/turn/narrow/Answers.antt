use Rattle.std.proofs.Common.{inl, refl, ℕ, ◌∷◌, [], List, length, ap, ◌∙◌}
use Rattle.search_rules.specs.Family.{put}
use Rattle.search_rules.specs.Trail.{Entry, narrowing_entry}
use Rattle.plain_steps.specs.Sets.{has, family}
use Rattle.plain_search.specs.State.{reason_of, entries_of, boxes_of}
use Rattle.plain_search.proofs.TurnLemmas.{further}
use Rattle.plain_search.proofs.turn.narrow.Goals as goal

pub returns : goal.returns
returns g c =
    let p = g.T.Task.plain c.args.task.now in
    let es : List (Entry ℕ) = entries_of c.args.trail.now.changes.items in
    let law = c.narrowing_keeps_the_state_legal.ensures in
    let goes_on =
    further p c.args.boxes.now c.args.trail.now c.change.new.self
    (narrowing_entry es (family c.args.trail.now.domains.items) c.args.var (reason_of c.args.cause) ∷ es)
    (put (family c.args.trail.now.domains.items) c.args.var (has c.args.kept))
    (c.in_ok-change.ensures.entry
    ∙ ap (λ (l : ℕ). record { var = c.args.var; before = family c.args.trail.now.domains.items c.args.var; level = l; reason = reason_of c.args.cause } ∷ es) c.level-level.ensures)
    c.in_ok-change.ensures.family
    (law.legal [] (boxes_of c.args.boxes.now) es (family c.args.trail.now.domains.items) c.args.var (has c.args.kept) (reason_of c.args.cause)
    c.requires.state.legal c.requires.narrows.known c.requires.narrows.part c.requires.narrows.step c.requires.narrows.reason)
    (law.falls [] (boxes_of c.args.boxes.now) es (family c.args.trail.now.domains.items) c.args.var (has c.args.kept) (reason_of c.args.cause)
    c.requires.state.legal c.requires.narrows.known c.requires.narrows.part c.requires.narrows.step c.requires.narrows.reason)
    (c.in_ok-change.ensures.sets ∙ c.requires.state.sets)
    (c.in_ok-change.ensures.fits (length p.sets) c.requires.narrows.known c.requires.narrows.sized c.requires.state.fits)
    c.requires.state.sides in
    (goes_on, inl refl)
