use Rattle.std.proofs.Common.{◌+◌, ◌*◌, length, refl, ◌∙◌, subst}
use Rattle.diagram_arena.specs.Arena.{table}
use Rattle.exact_steps.specs.Domains.{family}
use Rattle.propagation.specs.Work.{IsCalmed, IsNearer, values_left, work}
use Rattle.constraint_queue.specs.Queue.{flag_count}
use Rattle.propagation.proofs.Moving.{onward_itself, onward_then, ready_on}
use Rattle.propagation.proofs.Turns.{flag_known, but_taken, queue_taken, quiet_at_once, work_falls}
use Rattle.propagation.proofs.propagating.propagate.Goals as goal

pub calm-requires-clause-ready : goal.calm-requires-clause-ready
calm-requires-clause-ready c = (record { compiled = c.requires.compiled; legal = c.requires.trail; pinned = c.requires.held })

pub calm-requires-clause-settled : goal.calm-requires-clause-settled
calm-requires-clause-settled c = quiet_at_once c.args.layout.now c.args.p.now (table c.args.ops.now.arena) c.args.compiled.now c.args.trail.now.domains c.args.queue.now c.requires.compiled c.requires.trail.readable.domains c.requires.settled

pub steps-init : goal.steps-init
steps-init c = record {
  done = onward_itself c.args.p.now c.args.layout.now c.args.boxes.now c.calm.new.ops c.args.compiled.now c.calm.new.trail c.pool-2.ensures.pinned_live c.pool-2.ensures.reduced (ready_on c.args.p.now c.args.layout.now c.args.boxes.now c.laws.ensures.stay c.args.compiled.now c.args.ops.now c.calm.new.ops c.args.trail.now c.calm.new.trail (record { compiled = c.requires.compiled; legal = c.requires.trail; pinned = c.requires.held }) c.calm.ensures.onward);
  queue = c.calm.ensures.queue;
  sizes = refl;
  calm = subst (IsCalmed c.args.p.now c.args.layout.now (table c.calm.new.ops.arena) c.args.boxes.now c.calm.new.trail c.calm.new.queue) c.in-None.is c.in_ok-conflict.ensures.calmed;
}

pub advance-requires-clause-known : goal.advance-requires-clause-known
advance-requires-clause-known c = flag_known c.args.layout.now c.args.p.now (table c.args.ops.now.arena) c.args.compiled.now c.steps.queue c.in-Some-next.c.0 c.requires.compiled c.steps.invariant.queue c.in-Some-next.ensures.taken.had

pub advance-requires-clause-ready : goal.advance-requires-clause-ready
advance-requires-clause-ready c = ready_on c.args.p.now c.args.layout.now c.args.boxes.now c.laws.ensures.stay c.args.compiled.now c.calm.new.ops c.steps.ops c.calm.new.trail c.steps.trail (ready_on c.args.p.now c.args.layout.now c.args.boxes.now c.laws.ensures.stay c.args.compiled.now c.args.ops.now c.calm.new.ops c.args.trail.now c.calm.new.trail (record { compiled = c.requires.compiled; legal = c.requires.trail; pinned = c.requires.held }) c.calm.ensures.onward) c.steps.invariant.done

pub advance-requires-clause-queue : goal.advance-requires-clause-queue
advance-requires-clause-queue c = queue_taken c.args.compiled.now c.steps.queue c.next.new.self c.in-Some-next.c c.in-Some-next.ensures.taken c.steps.invariant.queue

pub advance-requires-clause-settled : goal.advance-requires-clause-settled
advance-requires-clause-settled c = but_taken c.args.p.now (family c.args.layout.now (table c.steps.ops.arena) c.steps.trail.domains) c.steps.queue c.next.new.self c.in-Some-next.c c.in-Some-next.ensures.taken c.steps.invariant.calm.settled

pub steps-preserved : goal.steps-preserved
steps-preserved c = record {
  done = onward_then c.args.p.now c.args.layout.now c.args.boxes.now c.calm.new.ops c.steps.ops c.advance.new.ops c.calm.new.trail c.steps.trail c.advance.new.trail c.steps.invariant.done c.advance.ensures.onward;
  queue = c.advance.ensures.queue;
  sizes = c.advance.ensures.sizes ∙ c.steps.invariant.sizes;
  calm = subst (IsCalmed c.args.p.now c.args.layout.now (table c.advance.new.ops.arena) c.args.boxes.now c.advance.new.trail c.advance.new.queue) c.in-None-2.is c.in_ok-conflict-2.ensures.calmed;
}

pub steps-smaller : goal.steps-smaller
steps-smaller c =
    work_falls (work c.args.p.now c.args.layout.now (table c.advance.new.ops.arena) c.advance.new.trail c.advance.new.queue) (values_left c.args.p.now c.args.layout.now (table c.steps.ops.arena) c.steps.trail * (length c.args.p.now.constraints + 1)) (flag_count c.next.new.self) (flag_count c.steps.queue)
    (subst (IsNearer c.args.p.now c.args.layout.now (table c.steps.ops.arena) (table c.advance.new.ops.arena) c.steps.trail c.advance.new.trail c.next.new.self c.advance.new.queue) c.in-None-2.is c.in_ok-conflict-2.ensures.nearer) c.in-Some-next.ensures.taken.fewer

pub returns-in_err-conflict-2-clause-narrowed : goal.returns-in_err-conflict-2-clause-narrowed
returns-in_err-conflict-2-clause-narrowed c = (onward_then c.args.p.now c.args.layout.now c.args.boxes.now c.args.ops.now c.calm.new.ops c.advance.new.ops c.args.trail.now c.calm.new.trail c.advance.new.trail c.calm.ensures.onward (onward_then c.args.p.now c.args.layout.now c.args.boxes.now c.calm.new.ops c.steps.ops c.advance.new.ops c.calm.new.trail c.steps.trail c.advance.new.trail c.steps.invariant.done c.advance.ensures.onward)).narrowed

pub returns-in_err-conflict-2-clause-left : goal.returns-in_err-conflict-2-clause-left
returns-in_err-conflict-2-clause-left c = (onward_then c.args.p.now c.args.layout.now c.args.boxes.now c.args.ops.now c.calm.new.ops c.advance.new.ops c.args.trail.now c.calm.new.trail c.advance.new.trail c.calm.ensures.onward (onward_then c.args.p.now c.args.layout.now c.args.boxes.now c.calm.new.ops c.steps.ops c.advance.new.ops c.calm.new.trail c.steps.trail c.advance.new.trail c.steps.invariant.done c.advance.ensures.onward)).left

pub returns-in-Some-2-clause-narrowed : goal.returns-in-Some-2-clause-narrowed
returns-in-Some-2-clause-narrowed c = (onward_then c.args.p.now c.args.layout.now c.args.boxes.now c.args.ops.now c.calm.new.ops c.advance.new.ops c.args.trail.now c.calm.new.trail c.advance.new.trail c.calm.ensures.onward (onward_then c.args.p.now c.args.layout.now c.args.boxes.now c.calm.new.ops c.steps.ops c.advance.new.ops c.calm.new.trail c.steps.trail c.advance.new.trail c.steps.invariant.done c.advance.ensures.onward)).narrowed

pub returns-in-Some-2-clause-left : goal.returns-in-Some-2-clause-left
returns-in-Some-2-clause-left c = (onward_then c.args.p.now c.args.layout.now c.args.boxes.now c.args.ops.now c.calm.new.ops c.advance.new.ops c.args.trail.now c.calm.new.trail c.advance.new.trail c.calm.ensures.onward (onward_then c.args.p.now c.args.layout.now c.args.boxes.now c.calm.new.ops c.steps.ops c.advance.new.ops c.calm.new.trail c.steps.trail c.advance.new.trail c.steps.invariant.done c.advance.ensures.onward)).left

pub returns-clause-narrowed : goal.returns-clause-narrowed
returns-clause-narrowed c = (onward_then c.args.p.now c.args.layout.now c.args.boxes.now c.args.ops.now c.calm.new.ops c.steps.ops c.args.trail.now c.calm.new.trail c.steps.trail c.calm.ensures.onward c.steps.invariant.done).narrowed

pub returns-clause-left : goal.returns-clause-left
returns-clause-left c = (onward_then c.args.p.now c.args.layout.now c.args.boxes.now c.args.ops.now c.calm.new.ops c.steps.ops c.args.trail.now c.calm.new.trail c.steps.trail c.calm.ensures.onward c.steps.invariant.done).left
