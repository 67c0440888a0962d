use Rattle.std.proofs.Common.{refl}
use Rattle.sweep_states.proofs.Beginning.{begins_turn, begins_given, begin_occurs}
use Rattle.sweep_states.proofs.read.begin.Goals as goal

pub loop-state-preserved : goal.loop-state-preserved
loop-state-preserved g c =
    begins_turn c.start-first.result c.args.states.now c.loop-state.state-index c.state-item.result c.start-first.result c.loop-state.pairs.items c.push.new.self.items
    c.loop-state-test.true c.state-item.is refl c.in_ok-push.ensures.items c.loop-state.invariant

pub returns-clause-occur : goal.returns-clause-occur
returns-clause-occur g c =
    let all = begins_given c.start-first.result c.start-first.result c.args.states.now c.loop-state.state-index c.loop-state.pairs.items c.loop-state-test.false refl c.loop-state.invariant in
    begin_occurs c.start-first.result c.args.states.now c.loop-state.pairs.items (g.S.Shape.occurs c.args.shape.now c.args.from) (g.T.Shape.occurs c.args.filter.now 0) all
    c.requires.occur c.start-first.ensures.first

pub returns-clause-only : goal.returns-clause-only
returns-clause-only g c =
    (begins_given c.start-first.result (g.T.Shape.rules c.args.filter.now).start c.args.states.now c.loop-state.state-index c.loop-state.pairs.items c.loop-state-test.false
    c.start-first.ensures.state c.loop-state.invariant).only

pub returns-clause-every : goal.returns-clause-every
returns-clause-every g c =
    (begins_given c.start-first.result (g.T.Shape.rules c.args.filter.now).start c.args.states.now c.loop-state.state-index c.loop-state.pairs.items c.loop-state-test.false
    c.start-first.ensures.state c.loop-state.invariant).every
