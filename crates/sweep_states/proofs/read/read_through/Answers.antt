use Rattle.std.proofs.Common.{◌≡◌, ◌+◌, sym, subst, arith}
use Rattle.sweep_states.specs.Sweeps.{Each, Filtered, LeadsTo}
use Rattle.sweep_states.proofs.Turning.{KeepsOn, keeps_at_start, keeps_turn, ends_right}
use Rattle.sweep_states.proofs.read.read_through.Goals as goal

pub loop-i-init : goal.loop-i-init
loop-i-init g c =
    let from = c.args.from in
    let f : Filtered g.row.S-State.Denot g.row.T-State.Denot = record { rules = g.S.Shape.rules c.args.shape.now; from = from; filter = g.T.Shape.rules c.args.filter.now } in
    let e : from ≡ from + 0 = omega arith in
    record {
      keeps = keeps_at_start f c.args.count c.args.states.now c.in_ok-pairs.pairs.items c.in_ok-pairs.ensures.only c.in_ok-pairs.ensures.every;
      occur = subst (λ n. Each {X = g.row.S-State.Denot × g.row.T-State.Denot} (λ s. g.S.Shape.occurs c.args.shape.now n s.0 × g.T.Shape.occurs c.args.filter.now 0 s.1) c.in_ok-pairs.pairs.items) e
          c.in_ok-pairs.ensures.occur;
    }

pub loop-i-preserved : goal.loop-i-preserved
loop-i-preserved g c =
    let f : Filtered g.row.S-State.Denot g.row.T-State.Denot = record { rules = g.S.Shape.rules c.args.shape.now; from = c.args.from; filter = g.T.Shape.rules c.args.filter.now } in
    let leads = subst (λ pairs. LeadsTo f c.loop-i.i pairs c.in_ok-pairs-2.pairs.items) c.as_slice.ensures.value c.in_ok-pairs-2.ensures.leads in
    record {
      keeps = keeps_turn f c.args.count c.args.states.now c.loop-i.i c.loop-i.pairs.items c.in_ok-pairs-2.pairs.items leads c.loop-i.invariant.keeps;
      occur = c.in_ok-pairs-2.ensures.occur;
    }

pub finish-requires-clause-occur : goal.finish-requires-clause-occur
finish-requires-clause-occur g c =
    let e : c.loop-i.i ≡ c.args.count = omega arith in
    let here = subst (λ n. Each {X = g.row.S-State.Denot × g.row.T-State.Denot} (λ s. g.S.Shape.occurs c.args.shape.now (c.args.from + n) s.0 × g.T.Shape.occurs c.args.filter.now n s.1)
    c.loop-i.pairs.items) e c.loop-i.invariant.occur in
    subst (λ pairs. Each {X = g.row.S-State.Denot × g.row.T-State.Denot} (λ s. g.S.Shape.occurs c.args.shape.now (c.args.from + c.args.count) s.0 × g.T.Shape.occurs c.args.filter.now c.args.count s.1) pairs)
    (sym c.as_slice-2.ensures.value) here

pub returns-clause-leads : goal.returns-clause-leads
returns-clause-leads g c =
    let f : Filtered g.row.S-State.Denot g.row.T-State.Denot = record { rules = g.S.Shape.rules c.args.shape.now; from = c.args.from; filter = g.T.Shape.rules c.args.filter.now } in
    let e : c.loop-i.i ≡ c.args.count = omega arith in
    let keeps = subst (KeepsOn f c.args.count c.args.states.now c.loop-i.i) (sym c.as_slice-2.ensures.value) c.loop-i.invariant.keeps in
    ends_right f c.args.count c.args.states.now c.loop-i.i c.as_slice-2.result.now c.in_ok-ends.ends.items e keeps c.in_ok-ends.ensures.only c.in_ok-ends.ensures.every
