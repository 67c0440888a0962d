use Rattle.std.proofs.Common.{◌≡◌, ◌+◌, true, false, subst, arith}
use Rattle.sweep_states.specs.Sweeps.{Filtered}
use Rattle.sweep_states.proofs.Turning.{advances_turn, advances_all, leads_same, each_same}
use Rattle.sweep_states.proofs.read.advance.Goals as goal

pub loop-pair-preserved : goal.loop-pair-preserved
loop-pair-preserved g c =
    let from = c.args.from in
    let i = c.args.i in
    let f : Filtered g.row.S-State.Denot g.row.T-State.Denot = record { rules = g.S.Shape.rules c.args.shape.now; from = from; filter = g.T.Shape.rules c.args.filter.now } in
    let e : from + i + 1 ≡ from + (i + 1) = omega arith in
    let s = c.pair-item.result in
    let low = subst (λ n. g.S.Shape.occurs c.args.shape.now n ((g.S.Shape.rules c.args.shape.now).step (from + i) s.0 false)) e c.in_ok-push_step.ensures.occurs in
    let high = subst (λ n. g.S.Shape.occurs c.args.shape.now n ((g.S.Shape.rules c.args.shape.now).step (from + i) s.0 true)) e c.in_ok-push_step-2.ensures.occurs in
    advances_turn f i (λ s. g.S.Shape.occurs c.args.shape.now (from + (i + 1)) s.0 × g.T.Shape.occurs c.args.filter.now (i + 1) s.1) c.args.pairs.now c.loop-pair.pair-index s
    c.loop-pair.next.items c.push_step.new.next.items c.push_step-in-loop-pair.new.next.items c.loop-pair-test.true c.pair-item.is c.loop-pair.invariant
    c.in_ok-push_step.ensures.pushed c.in_ok-push_step-2.ensures.pushed (low, c.in_ok-push_step.ensures.occurs_filter) (high, c.in_ok-push_step-2.ensures.occurs_filter)

pub returns-clause-occur : goal.returns-clause-occur
returns-clause-occur g c =
    each_same (λ s. g.S.Shape.occurs c.args.shape.now (c.args.from + (c.args.i + 1)) s.0 × g.T.Shape.occurs c.args.filter.now (c.args.i + 1) s.1)
    c.loop-pair.next.items c.make_distinct.new.states.items c.make_distinct.ensures.same c.loop-pair.invariant.occur

pub returns-clause-leads : goal.returns-clause-leads
returns-clause-leads g c =
    let f : Filtered g.row.S-State.Denot g.row.T-State.Denot = record { rules = g.S.Shape.rules c.args.shape.now; from = c.args.from; filter = g.T.Shape.rules c.args.filter.now } in
    let all = advances_all f c.args.i (λ s. g.S.Shape.occurs c.args.shape.now (c.args.from + (c.args.i + 1)) s.0 × g.T.Shape.occurs c.args.filter.now (c.args.i + 1) s.1)
    c.args.pairs.now c.loop-pair.pair-index c.loop-pair.next.items c.loop-pair-test.false c.loop-pair.invariant in
    leads_same f c.args.i c.args.pairs.now c.loop-pair.next.items c.make_distinct.new.states.items c.make_distinct.ensures.same all.leads
