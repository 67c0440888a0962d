use Rattle.std.proofs.Common.{length, subst}
use Rattle.diagram_arena.specs.Arena.{table}
use Rattle.exact_steps.specs.Domains.{family}
use Rattle.std.proofs.lemmas.Result.{IfOk-weaker}
use Rattle.running_boxes.specs.declared.beginning.Conflict.TheVariants as conflict
use Rattle.propagation.specs.Work.{IsTurn, IsCalmed, IsNearer}
use Rattle.propagation.proofs.Moving.{onward_then, ready_on, stored_kept, fewer_first}
use Rattle.propagation.proofs.Turns.{nearer_unturned, nearer_after}
use Rattle.propagation.proofs.Circling.{boxes_read}
use Rattle.propagation.proofs.propagating.advance.Goals as goal

pub returns-in-Same-clause-calmed : goal.returns-in-Same-clause-calmed
returns-in-Same-clause-calmed c =
    let r = (subst (IsTurn c.args.p.now c.args.layout.now (table c.args.ops.now.arena) (table c.turn.new.ops.arena) c.args.boxes.now (conflict.Constraint c.args.c) c.args.trail.now c.turn.new.trail c.args.queue.now c.turn.new.queue) c.in-Same.is c.in_ok-turn.ensures.turned) in
    record {
      settled = r.0.settled;
      boxes = boxes_read c.args.layout.now (table c.args.ops.now.arena) (table c.turn.new.ops.arena) c.args.boxes.now (family c.args.layout.now (table c.args.ops.now.arena) c.args.trail.now.domains) (family c.args.layout.now (table c.turn.new.ops.arena) c.turn.new.trail.domains) (length c.args.boxes.now)
          (λ id. c.laws.ensures.stay.under c.args.layout.now (table c.args.ops.now.arena) (table c.turn.new.ops.arena) c.args.boxes.now id (stored_kept c.args.p.now c.args.layout.now c.args.boxes.now c.laws.ensures.stay c.args.compiled.now c.args.ops.now c.turn.new.ops c.args.trail.now c.turn.new.trail c.requires.ready c.turn.ensures.onward))
          r.0.values c.requires.boxes;
    }

pub returns-in-Same-clause-nearer : goal.returns-in-Same-clause-nearer
returns-in-Same-clause-nearer c = nearer_unturned c.args.p.now c.args.layout.now (table c.args.ops.now.arena) (table c.turn.new.ops.arena) c.args.trail.now c.turn.new.trail c.args.queue.now c.turn.new.queue (subst (IsTurn c.args.p.now c.args.layout.now (table c.args.ops.now.arena) (table c.turn.new.ops.arena) c.args.boxes.now (conflict.Constraint c.args.c) c.args.trail.now c.turn.new.trail c.args.queue.now c.turn.new.queue) c.in-Same.is c.in_ok-turn.ensures.turned).0

pub calm-requires-clause-ready : goal.calm-requires-clause-ready
calm-requires-clause-ready c = ready_on c.args.p.now c.args.layout.now c.args.boxes.now c.laws.ensures.stay c.args.compiled.now c.args.ops.now c.turn.new.ops c.args.trail.now c.turn.new.trail c.requires.ready c.turn.ensures.onward

pub calm-requires-clause-settled : goal.calm-requires-clause-settled
calm-requires-clause-settled c = (subst (IsTurn c.args.p.now c.args.layout.now (table c.args.ops.now.arena) (table c.turn.new.ops.arena) c.args.boxes.now (conflict.Constraint c.args.c) c.args.trail.now c.turn.new.trail c.args.queue.now c.turn.new.queue) c.in-Narrowed.is c.in_ok-turn.ensures.turned).settled

pub returns-in-Narrowed-clause-onward : goal.returns-in-Narrowed-clause-onward
returns-in-Narrowed-clause-onward c = onward_then c.args.p.now c.args.layout.now c.args.boxes.now c.args.ops.now c.turn.new.ops c.calm.new.ops c.args.trail.now c.turn.new.trail c.calm.new.trail c.turn.ensures.onward c.calm.ensures.onward

pub returns-in-Narrowed-clause-nearer : goal.returns-in-Narrowed-clause-nearer
returns-in-Narrowed-clause-nearer c =
    IfOk-weaker c.calm.result (IsCalmed c.args.p.now c.args.layout.now (table c.calm.new.ops.arena) c.args.boxes.now c.calm.new.trail c.calm.new.queue) (IsNearer c.args.p.now c.args.layout.now (table c.args.ops.now.arena) (table c.calm.new.ops.arena) c.args.trail.now c.calm.new.trail c.args.queue.now c.calm.new.queue)
    (λ o h. nearer_after c.args.p.now c.args.layout.now (table c.args.ops.now.arena) (table c.args.ops.now.arena) (table c.calm.new.ops.arena) c.args.compiled.now c.args.trail.now c.calm.new.trail c.args.queue.now c.calm.new.queue o c.requires.ready.compiled c.calm.ensures.queue
    (fewer_first c.args.p.now c.args.layout.now c.args.boxes.now (table c.args.ops.now.arena) (table c.turn.new.ops.arena) (table c.calm.new.ops.arena) c.args.trail.now c.turn.new.trail c.calm.new.trail (subst (IsTurn c.args.p.now c.args.layout.now (table c.args.ops.now.arena) (table c.turn.new.ops.arena) c.args.boxes.now (conflict.Constraint c.args.c) c.args.trail.now c.turn.new.trail c.args.queue.now c.turn.new.queue) c.in-Narrowed.is c.in_ok-turn.ensures.turned).fewer c.calm.ensures.onward.narrowed))
    c.calm.ensures.calmed

pub returns-in-Conflict-clause-calmed : goal.returns-in-Conflict-clause-calmed
returns-in-Conflict-clause-calmed c = (subst (IsTurn c.args.p.now c.args.layout.now (table c.args.ops.now.arena) (table c.turn.new.ops.arena) c.args.boxes.now (conflict.Constraint c.args.c) c.args.trail.now c.turn.new.trail c.args.queue.now c.turn.new.queue) c.in-Conflict.is c.in_ok-turn.ensures.turned)
