use Rattle.std.proofs.Common.{◌<◌, ◌≤◌, arith}
use Rattle.search_rules.specs.State.{IsLegal}
use Rattle.search_rules.specs.Measure.{measure}
use Rattle.search_moves.proofs.Turning.{advance_cases, move_cases}
use Rattle.search_moves.proofs.moving.moves_keep_the_state_legal.Goals as goal

pub returns-clause-legal : goal.returns-clause-legal
returns-clause-legal g c s t move legal =
    let p = g.P.Rules.problem c.args.problem.now in
    let narrowing = c.narrowing_keeps_the_state_legal.ensures.legal s.answers s.boxes s.entries s.family in
    let decision = c.decision_keeps_the_state_legal.ensures.legal s.answers s.boxes s.entries s.family in
    let turned = c.conflict_turn.ensures.narrowed s.answers s.boxes s.entries s.family in
    move_cases (λ u. IsLegal p u.answers u.boxes u.entries u.family)
    (λ u step. advance_cases (λ u. IsLegal p u.answers u.boxes u.entries u.family)
    (λ v set reason known part made why. narrowing v set reason legal known part made why)
    (λ v set known part rule quiet. decision v set legal known part rule quiet)
    (λ b l v k derives level. turned b l v k legal derives level)
    step)
    (λ a. c.answer_keeps_the_state_legal.ensures s.answers s.boxes s.entries s.family a legal)
    (λ b safe. c.safe_box_keeps_the_state_legal.ensures s.answers s.boxes s.entries s.family b legal safe)
    move

pub returns-clause-falls : goal.returns-clause-falls
returns-clause-falls g c s t step legal =
    let p = g.P.Rules.problem c.args.problem.now in
    let narrowing = c.narrowing_keeps_the_state_legal.ensures.falls s.answers s.boxes s.entries s.family in
    let decision = c.decision_keeps_the_state_legal.ensures.falls s.answers s.boxes s.entries s.family in
    let turned = c.conflict_turn.ensures.falls s.answers s.boxes s.entries s.family in
    advance_cases (λ u. measure p u.entries u.family < measure p s.entries s.family)
    (λ v set reason known part made why. narrowing v set reason legal known part made why)
    (λ v set known part rule quiet. decision v set legal known part rule quiet)
    (λ b l v k derives level. turned b l v k legal derives level)
    step

pub returns-clause-never_rises : goal.returns-clause-never_rises
returns-clause-never_rises g c s t move legal =
    let p = g.P.Rules.problem c.args.problem.now in
    move_cases (λ u. measure p u.entries u.family ≤ measure p s.entries s.family)
    (λ u step.
    let falls : measure p u.entries u.family < measure p s.entries s.family = returns-clause-falls g c s u step legal in
    omega arith)
    (λ a. omega arith)
    (λ b safe. omega arith)
    move
