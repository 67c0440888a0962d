use Rattle.std.proofs.Common.{◌+◌, ◌<◌, ◌≤◌, length, refl, sym, ◌∙◌, subst}
use Rattle.diagram_arena.specs.Arena.{table}
use Rattle.exact_steps.specs.Domains.{family}
use Rattle.std.proofs.lemmas.Bool.{both_ways}
use Rattle.propagation.specs.Work.{IsRound}
use Rattle.propagation.proofs.Moving.{onward_itself, onward_then, ready_on, stored_kept}
use Rattle.propagation.proofs.Turns.{but_none}
use Rattle.propagation.proofs.Circling.{round_begun, round_more, round_settled, round_broken, round_ended}
use Rattle.running_boxes.specs.declared.beginning.Conflict.TheVariants as conflict
use Rattle.propagation.proofs.rounds.round.Goals as goal

pub boxes-init : goal.boxes-init
boxes-init c = record {
  done = onward_itself c.args.p.now c.args.layout.now c.args.boxes.now c.args.ops.now c.args.compiled.now c.args.trail.now c.pool.ensures.pinned_live c.pool.ensures.reduced c.requires.ready;
  queue = c.requires.queue;
  sizes = refl;
  round = round_begun c.args.p.now c.args.layout.now (table c.args.ops.now.arena) c.args.boxes.now c.args.trail.now c.args.queue.now c.requires.settled;
  on = λ h. h;
}

pub turn-requires-clause-known : goal.turn-requires-clause-known
turn-requires-clause-known c = subst (λ n. c.boxes.b < n) c.len-b-end.ensures c.boxes-test.true

pub turn-requires-clause-ready : goal.turn-requires-clause-ready
turn-requires-clause-ready c = ready_on c.args.p.now c.args.layout.now c.args.boxes.now c.laws.ensures.stay c.args.compiled.now c.args.ops.now c.boxes.ops c.args.trail.now c.boxes.trail c.requires.ready c.boxes.invariant.done

pub turn-requires-clause-settled : goal.turn-requires-clause-settled
turn-requires-clause-settled c =
    but_none c.args.p.now (family c.args.layout.now (table c.boxes.ops.arena) c.boxes.trail.domains) c.boxes.queue (conflict.Box (record { 0 = c.boxes.b }))
    (round_settled c.args.p.now c.args.layout.now (table c.args.ops.now.arena) (table c.boxes.ops.arena) c.args.boxes.now c.boxes.b c.args.trail.now c.boxes.trail c.args.queue.now c.boxes.queue c.boxes.so_far c.boxes.invariant.on c.boxes.invariant.round)

pub returns-in_err-turned-clause-onward : goal.returns-in_err-turned-clause-onward
returns-in_err-turned-clause-onward c = onward_then c.args.p.now c.args.layout.now c.args.boxes.now c.args.ops.now c.boxes.ops c.turn.new.ops c.args.trail.now c.boxes.trail c.turn.new.trail c.boxes.invariant.done c.turn.ensures.onward

pub returns-then-is_conflict-clause-onward : goal.returns-then-is_conflict-clause-onward
returns-then-is_conflict-clause-onward c = onward_then c.args.p.now c.args.layout.now c.args.boxes.now c.args.ops.now c.boxes.ops c.turn.new.ops c.args.trail.now c.boxes.trail c.turn.new.trail c.boxes.invariant.done c.turn.ensures.onward

pub returns-then-is_conflict-clause-round : goal.returns-then-is_conflict-clause-round
returns-then-is_conflict-clause-round c =
    round_broken c.args.p.now c.args.layout.now (table c.args.ops.now.arena) (table c.turn.new.ops.arena) c.args.boxes.now (c.boxes.b + 1) (length c.args.boxes.now) c.args.trail.now c.turn.new.trail c.args.queue.now c.turn.new.queue c.join-so_far.result (c.is_conflict.ensures.0 c.if-is_conflict.true)
    (subst (IsRound c.args.p.now c.args.layout.now (table c.args.ops.now.arena) (table c.turn.new.ops.arena) c.args.boxes.now (c.boxes.b + 1) c.args.trail.now c.turn.new.trail c.args.queue.now c.turn.new.queue) (sym c.join-so_far.ensures)
    (round_more c.args.p.now c.args.layout.now (table c.args.ops.now.arena) (table c.boxes.ops.arena) (table c.turn.new.ops.arena) c.args.boxes.now c.args.trail.now c.boxes.trail c.turn.new.trail c.args.queue.now c.boxes.queue c.turn.new.queue c.boxes.b
    (λ id. c.laws.ensures.stay.under c.args.layout.now (table c.boxes.ops.arena) (table c.turn.new.ops.arena) c.args.boxes.now id (stored_kept c.args.p.now c.args.layout.now c.args.boxes.now c.laws.ensures.stay c.args.compiled.now c.boxes.ops c.turn.new.ops c.boxes.trail c.turn.new.trail (ready_on c.args.p.now c.args.layout.now c.args.boxes.now c.laws.ensures.stay c.args.compiled.now c.args.ops.now c.boxes.ops c.args.trail.now c.boxes.trail c.requires.ready c.boxes.invariant.done) c.turn.ensures.onward))
    c.boxes.invariant.done.narrowed c.turn.ensures.onward.narrowed c.boxes.so_far c.in_ok-turned.turned c.boxes.invariant.on c.boxes.invariant.round c.in_ok-turned.ensures.turned))

pub boxes-preserved : goal.boxes-preserved
boxes-preserved c = record {
  done = onward_then c.args.p.now c.args.layout.now c.args.boxes.now c.args.ops.now c.boxes.ops c.turn.new.ops c.args.trail.now c.boxes.trail c.turn.new.trail c.boxes.invariant.done c.turn.ensures.onward;
  queue = c.turn.ensures.queue;
  sizes = c.turn.ensures.sizes ∙ c.boxes.invariant.sizes;
  round = (subst (IsRound c.args.p.now c.args.layout.now (table c.args.ops.now.arena) (table c.turn.new.ops.arena) c.args.boxes.now (c.boxes.b + 1) c.args.trail.now c.turn.new.trail c.args.queue.now c.turn.new.queue) (sym c.join-so_far.ensures)
      (round_more c.args.p.now c.args.layout.now (table c.args.ops.now.arena) (table c.boxes.ops.arena) (table c.turn.new.ops.arena) c.args.boxes.now c.args.trail.now c.boxes.trail c.turn.new.trail c.args.queue.now c.boxes.queue c.turn.new.queue c.boxes.b
      (λ id. c.laws.ensures.stay.under c.args.layout.now (table c.boxes.ops.arena) (table c.turn.new.ops.arena) c.args.boxes.now id (stored_kept c.args.p.now c.args.layout.now c.args.boxes.now c.laws.ensures.stay c.args.compiled.now c.boxes.ops c.turn.new.ops c.boxes.trail c.turn.new.trail (ready_on c.args.p.now c.args.layout.now c.args.boxes.now c.laws.ensures.stay c.args.compiled.now c.args.ops.now c.boxes.ops c.args.trail.now c.boxes.trail c.requires.ready c.boxes.invariant.done) c.turn.ensures.onward))
      c.boxes.invariant.done.narrowed c.turn.ensures.onward.narrowed c.boxes.so_far c.in_ok-turned.turned c.boxes.invariant.on c.boxes.invariant.round c.in_ok-turned.ensures.turned));
  on = λ h. both_ways c.is_conflict.result c.if-is_conflict.false (c.is_conflict.ensures.1 h);
}

pub returns-clause-round : goal.returns-clause-round
returns-clause-round c =
    round_ended c.args.p.now c.args.layout.now (table c.args.ops.now.arena) (table c.boxes.ops.arena) c.args.boxes.now c.boxes.b (length c.args.boxes.now) c.args.trail.now c.boxes.trail c.args.queue.now c.boxes.queue c.boxes.so_far (subst (λ n. n ≤ c.boxes.b) c.len-b-end.ensures c.boxes-test.false) c.boxes.invariant.round
