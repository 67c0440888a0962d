use Rattle.std.proofs.Common.{inr, ℕ, ◌<◌, [], refl, sym, ◌∙◌, subst, Option}
use Rattle.std.specs.List.{All}
use Rattle.std.specs.Prelude.{MatchOption}
use Rattle.search_rules.specs.Walk.{IsBackLevel}
use Rattle.plain_steps.specs.Sets.{family}
use Rattle.plain_search.specs.State.{entries_of, boxes_of, Fits}
use Rattle.plain_search.specs.Moves.{IsPassed, IsStopped}
use Rattle.plain_search.specs.declared.walking.Derived.{Derived}
use Rattle.plain_search.proofs.LearnLemmas.{derives, derives_at_root, done, learned_further}
use Rattle.plain_search.proofs.learning.learn.Goals as goal

pub take_up-requires-clause-known : goal.take_up-requires-clause-known
take_up-requires-clause-known g c =
    let p = g.T.Task.plain c.args.task.now in
    let stopped : IsStopped p c.args.trail.now c.args.first.items c.walk.new.trail c.in-Some.derived =
    subst (λ (o : Option Derived). MatchOption o (IsPassed p c.args.trail.now c.args.first.items) (IsStopped p c.args.trail.now c.args.first.items c.walk.new.trail))
    c.in-Some.is c.in_ok-walk.ensures.walked in
    subst (λ (n : ℕ). c.in-Some.derived.var < n) (sym (c.in_ok-walk.ensures.sets ∙ c.requires.state.sets))
    (c.derived_box_narrows.ensures.known (boxes_of c.args.boxes.now.items) (entries_of c.args.trail.now.changes.items)
    (family c.args.trail.now.domains.items) (family c.in-Some.derived.sides.items) stopped.level c.in-Some.derived.var
    c.requires.state.legal.trail
    (derives p c.args.boxes.now.items c.args.trail.now c.args.first.items c.walk.new.trail c.in-Some.derived c.requires.conflict stopped))

pub returns-in-None : goal.returns-in-None
returns-in-None g c =
    let p = g.T.Task.plain c.args.task.now in
    let passed : IsPassed p c.args.trail.now c.args.first.items =
    subst (λ (o : Option Derived). MatchOption o (IsPassed p c.args.trail.now c.args.first.items) (IsStopped p c.args.trail.now c.args.first.items c.walk.new.trail))
    c.in-None.is c.in_ok-walk.ensures.walked in (
      record {
        none = c.walk_past_the_first_entry.ensures.covered [] (boxes_of c.args.boxes.now.items) (entries_of c.args.trail.now.changes.items)
            (family c.args.trail.now.domains.items) passed.last c.requires.state.legal
            (derives_at_root p c.args.boxes.now.items c.args.trail.now c.args.first.items c.requires.conflict passed);
        done = done p c.args.boxes.now.items c.args.trail.now c.args.first.items c.requires.state c.requires.conflict passed;
      },
      refl,
    )

pub returns-in_ok-take_up-in-Some : goal.returns-in_ok-take_up-in-Some
returns-in_ok-take_up-in-Some g c =
    let p = g.T.Task.plain c.args.task.now in
    let boxes = boxes_of c.args.boxes.now.items in
    let es = entries_of c.args.trail.now.changes.items in
    let f = family c.args.trail.now.domains.items in
    let b = family c.in-Some.derived.sides.items in
    let v : ℕ = c.in-Some.derived.var in
    let stopped : IsStopped p c.args.trail.now c.args.first.items c.walk.new.trail c.in-Some.derived =
    subst (λ (o : Option Derived). MatchOption o (IsPassed p c.args.trail.now c.args.first.items) (IsStopped p c.args.trail.now c.args.first.items c.walk.new.trail))
    c.in-Some.is c.in_ok-walk.ensures.walked in
    let d = derives p c.args.boxes.now.items c.args.trail.now c.args.first.items c.walk.new.trail c.in-Some.derived c.requires.conflict stopped in
    let taken = c.in_ok-take_up-in-Some.ensures.taken in
    let level : IsBackLevel es f b v taken.level =
    c.level_to_go_back_to.ensures boxes es f b stopped.level v taken.level c.requires.state.legal.trail d taken.newest in
    let below : taken.level < stopped.level =
    c.derived_box_narrows.ensures.below boxes es f b stopped.level v taken.level c.requires.state.legal.trail d level in
    let goes_on =
    learned_further p c.args.boxes.now.items c.take_up.new.boxes.items c.args.trail.now c.walk.new.trail c.take_up.new.trail c.in-Some.derived
    c.requires.state taken stopped.long c.in_ok-walk.ensures.sets
    (c.stop_goes_back_as_the_trail.ensures.family boxes es f b stopped.level v taken.level c.requires.state.legal.trail d below)
    (c.stop_goes_back_as_the_trail.ensures.entries boxes es f b stopped.level v taken.level c.requires.state.legal.trail d below)
    (c.conflict_turn.ensures.narrowed [] boxes es f b stopped.level v taken.level c.requires.state.legal d level)
    (c.conflict_turn.ensures.falls [] boxes es f b stopped.level v taken.level c.requires.state.legal d level)
    (subst (λ (n : ℕ). All (Fits n) c.take_up.new.trail.changes.items) (c.in_ok-walk.ensures.sets ∙ c.requires.state.sets)
    c.in_ok-take_up-in-Some.ensures.fits) in
    (goes_on, inr (c.in-Some.derived.sides.items, taken.added))
