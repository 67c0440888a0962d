use Rattle.std.proofs.Common.{length, refl, ◌∙◌, subst}
use Rattle.diagram_arena.specs.Arena.{table}
use Rattle.propagation.specs.Work.{IsRound}
use Rattle.propagation.proofs.Moving.{onward_itself, onward_then, ready_on}
use Rattle.propagation.proofs.rounds.calm.Goals as goal

pub rounds-init : goal.rounds-init
rounds-init c = record {
  done = onward_itself c.args.p.now c.args.layout.now c.args.boxes.now c.args.ops.now c.args.compiled.now c.args.trail.now c.pool.ensures.pinned_live c.pool.ensures.reduced c.requires.ready;
  queue = c.requires.queue;
  sizes = refl;
  settled = c.requires.settled;
}

pub round-requires-clause-ready : goal.round-requires-clause-ready
round-requires-clause-ready c = ready_on c.args.p.now c.args.layout.now c.args.boxes.now c.laws.ensures.stay c.args.compiled.now c.args.ops.now c.rounds.ops c.args.trail.now c.rounds.trail c.requires.ready c.rounds.invariant.done

pub returns-in_err-round-clause-onward : goal.returns-in_err-round-clause-onward
returns-in_err-round-clause-onward c = onward_then c.args.p.now c.args.layout.now c.args.boxes.now c.args.ops.now c.rounds.ops c.round.new.ops c.args.trail.now c.rounds.trail c.round.new.trail c.rounds.invariant.done c.round.ensures.onward

pub returns-in-Same-clause-onward : goal.returns-in-Same-clause-onward
returns-in-Same-clause-onward c = onward_then c.args.p.now c.args.layout.now c.args.boxes.now c.args.ops.now c.rounds.ops c.round.new.ops c.args.trail.now c.rounds.trail c.round.new.trail c.rounds.invariant.done c.round.ensures.onward

pub returns-in-Conflict-clause-onward : goal.returns-in-Conflict-clause-onward
returns-in-Conflict-clause-onward c = onward_then c.args.p.now c.args.layout.now c.args.boxes.now c.args.ops.now c.rounds.ops c.round.new.ops c.args.trail.now c.rounds.trail c.round.new.trail c.rounds.invariant.done c.round.ensures.onward

pub returns-in-Same-clause-calmed : goal.returns-in-Same-clause-calmed
returns-in-Same-clause-calmed c = let r = (subst (IsRound c.args.p.now c.args.layout.now (table c.rounds.ops.arena) (table c.round.new.ops.arena) c.args.boxes.now (length c.args.boxes.now) c.rounds.trail c.round.new.trail c.rounds.queue c.round.new.queue) c.in-Same.is c.in_ok-round.ensures.round) in record { settled = r.0.settled; boxes = r.1 }

pub returns-in-Conflict-clause-calmed : goal.returns-in-Conflict-clause-calmed
returns-in-Conflict-clause-calmed c = (subst (IsRound c.args.p.now c.args.layout.now (table c.rounds.ops.arena) (table c.round.new.ops.arena) c.args.boxes.now (length c.args.boxes.now) c.rounds.trail c.round.new.trail c.rounds.queue c.round.new.queue) c.in-Conflict.is c.in_ok-round.ensures.round)

pub rounds-preserved : goal.rounds-preserved
rounds-preserved c = record {
  done = onward_then c.args.p.now c.args.layout.now c.args.boxes.now c.args.ops.now c.rounds.ops c.round.new.ops c.args.trail.now c.rounds.trail c.round.new.trail c.rounds.invariant.done c.round.ensures.onward;
  queue = c.round.ensures.queue;
  sizes = c.round.ensures.sizes ∙ c.rounds.invariant.sizes;
  settled = (subst (IsRound c.args.p.now c.args.layout.now (table c.rounds.ops.arena) (table c.round.new.ops.arena) c.args.boxes.now (length c.args.boxes.now) c.rounds.trail c.round.new.trail c.rounds.queue c.round.new.queue) c.in-Narrowed.is c.in_ok-round.ensures.round).settled;
}

pub rounds-smaller : goal.rounds-smaller
rounds-smaller c = (subst (IsRound c.args.p.now c.args.layout.now (table c.rounds.ops.arena) (table c.round.new.ops.arena) c.args.boxes.now (length c.args.boxes.now) c.rounds.trail c.round.new.trail c.rounds.queue c.round.new.queue) c.in-Narrowed.is c.in_ok-round.ensures.round).fewer
