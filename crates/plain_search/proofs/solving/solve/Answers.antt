use Rattle.std.proofs.Common.{ℕ, List, sym, subst}
use Rattle.search_rules.specs.Family.{HasValue}
use Rattle.plain_steps.specs.Sets.{family}
use Rattle.plain_search.specs.Moves.{IsTurned}
use Rattle.plain_search.specs.Outcome.{AreSafe}
use Rattle.plain_search.specs.declared.turn.Turn.{Turn}
use Rattle.plain_search.proofs.OutcomeLemmas.{refuted}
use Rattle.plain_search.proofs.solving.solve.Goals as goal

pub take_turn-requires-clause-values : goal.take_turn-requires-clause-values
take_turn-requires-clause-values g c =
    subst (λ (sets : List (List ℕ)). (v : ℕ) → HasValue (family sets v)) c.sets.ensures c.if-not-have_values.ensures

pub returns-in-Solved-clause-safe : goal.returns-in-Solved-clause-safe
returns-in-Solved-clause-safe g c =
    let p = g.T.Task.plain c.args.task.now in
    let turned = subst (λ (t : Turn). IsTurned p c.loop-trail.boxes.items c.loop-trail.trail c.take_turn.new.boxes.items c.take_turn.new.trail t)
    c.in-Solved.is c.in_ok-take_turn.ensures in
    subst (λ (boxes : List (List (List ℕ))). AreSafe p boxes) (sym turned.1) c.loop-trail.invariant.legal.safe

pub returns-in-Refuted-clause-answer : goal.returns-in-Refuted-clause-answer
returns-in-Refuted-clause-answer g c =
    let p = g.T.Task.plain c.args.task.now in
    let turned = subst (λ (t : Turn). IsTurned p c.loop-trail.boxes.items c.loop-trail.trail c.take_turn.new.boxes.items c.take_turn.new.trail t)
    c.in-Refuted.is c.in_ok-take_turn.ensures in
    refuted p turned.0.none

pub returns-in-Refuted-clause-safe : goal.returns-in-Refuted-clause-safe
returns-in-Refuted-clause-safe g c =
    let p = g.T.Task.plain c.args.task.now in
    let turned = subst (λ (t : Turn). IsTurned p c.loop-trail.boxes.items c.loop-trail.trail c.take_turn.new.boxes.items c.take_turn.new.trail t)
    c.in-Refuted.is c.in_ok-take_turn.ensures in
    subst (λ (boxes : List (List (List ℕ))). AreSafe p boxes) (sym turned.1) c.loop-trail.invariant.legal.safe
