use Rattle.std.proofs.Common.{subst}
use Rattle.diagram_arena.specs.Arena.{table}
use Rattle.exact_steps.specs.Domains.{family}
use Rattle.propagators.specs.Compiled.{pinned_by}
use Rattle.pin_lists.proofs.Leaving.{units_itself, units_then}
use Rattle.learn_search.specs.Nodes.{IsOfRoot}
use Rattle.learn_search.specs.Way.{IsTurn}
use Rattle.learn_search.proofs.Keeping.{held_on, compiled_kept}
use Rattle.learn_search.proofs.Turning.{flag_known, but_taken, queue_taken, queue_flagged, all_flagged, root_family, work_falls}
use Rattle.learn_search.proofs.narrowing.narrow.Goals as goal

pub steps-init : goal.steps-init
steps-init c = record {
  done = units_itself (IsOfRoot c.args.p.now) c.args.ops.now c.args.domains.now c.pool.ensures.pinned_live c.pool.ensures.reduced;
  way = c.requires.way;
  queue = queue_flagged c.args.p.now c.args.compiled.now c.in_ok-queue.queue c.flag_all.new.self c.in_ok-queue.ensures c.flag_all.ensures.scopes c.flag_all.ensures.long;
  settled = all_flagged c.args.p.now c.args.layout.now (table c.args.ops.now.arena) c.args.compiled.now (family c.args.layout.now (table c.args.ops.now.arena) c.args.domains.now) c.in_ok-queue.queue c.flag_all.new.self
      c.requires.compiled c.in_ok-queue.ensures.scopes c.flag_all.ensures.flags;
}

pub turn-requires-clause-known : goal.turn-requires-clause-known
turn-requires-clause-known c = flag_known c.args.p.now c.args.compiled.now c.steps.queue c.in-Some.c.0 c.steps.invariant.queue c.in-Some.ensures.taken.had

pub turn-requires-clause-compiled : goal.turn-requires-clause-compiled
turn-requires-clause-compiled c =
    compiled_kept (IsOfRoot c.args.p.now) c.args.p.now c.args.layout.now c.args.ops.now c.steps.ops c.args.compiled.now c.args.domains.now c.steps.domains c.steps.invariant.done c.requires.held c.requires.compiled

pub turn-requires-clause-held : goal.turn-requires-clause-held
turn-requires-clause-held c = held_on c.args.ops.now c.steps.ops (pinned_by c.args.compiled.now) c.args.domains.now c.steps.domains c.steps.invariant.done.pins c.requires.held

pub turn-requires-clause-queue : goal.turn-requires-clause-queue
turn-requires-clause-queue c = queue_taken c.args.p.now c.args.compiled.now c.steps.queue c.next.new.self c.in-Some.c c.in-Some.ensures.taken c.steps.invariant.queue

pub turn-requires-clause-settled : goal.turn-requires-clause-settled
turn-requires-clause-settled c = but_taken c.args.p.now (family c.args.layout.now (table c.steps.ops.arena) c.steps.domains) c.steps.queue c.next.new.self c.in-Some.c c.in-Some.ensures.taken c.steps.invariant.settled

pub returns-in_err-turn-clause-left : goal.returns-in_err-turn-clause-left
returns-in_err-turn-clause-left c = units_then (IsOfRoot c.args.p.now) c.args.ops.now c.steps.ops c.turn.new.ops c.args.domains.now c.steps.domains c.turn.new.domains c.steps.invariant.done c.turn.ensures.left

pub returns-then-not-branch-clause-left : goal.returns-then-not-branch-clause-left
returns-then-not-branch-clause-left c = units_then (IsOfRoot c.args.p.now) c.args.ops.now c.steps.ops c.turn.new.ops c.args.domains.now c.steps.domains c.turn.new.domains c.steps.invariant.done c.turn.ensures.left

pub steps-preserved : goal.steps-preserved
steps-preserved c =
    let turned = subst (IsTurn c.args.p.now c.args.layout.now (table c.steps.ops.arena) (table c.turn.new.ops.arena) c.args.compiled.now c.steps.domains c.turn.new.domains c.next.new.self c.turn.new.queue) c.if-not-branch.false c.in_ok-turn.ensures.turn in
    record {
      done = units_then (IsOfRoot c.args.p.now) c.args.ops.now c.steps.ops c.turn.new.ops c.args.domains.now c.steps.domains c.turn.new.domains c.steps.invariant.done c.turn.ensures.left;
      way = turned.way;
      queue = turned.queue;
      settled = turned.settled;
    }

pub steps-smaller : goal.steps-smaller
steps-smaller c =
    let turned = subst (IsTurn c.args.p.now c.args.layout.now (table c.steps.ops.arena) (table c.turn.new.ops.arena) c.args.compiled.now c.steps.domains c.turn.new.domains c.next.new.self c.turn.new.queue) c.if-not-branch.false c.in_ok-turn.ensures.turn in
    work_falls c.args.p.now c.args.layout.now (table c.steps.ops.arena) (table c.turn.new.ops.arena) c.args.compiled.now c.steps.domains c.turn.new.domains c.steps.queue c.next.new.self c.turn.new.queue c.in-Some.c c.in-Some.ensures.taken turned

pub returns-clause-fixed : goal.returns-clause-fixed
returns-clause-fixed c = root_family c.args.p.now c.args.layout.now (table c.steps.ops.arena) c.steps.domains c.steps.queue c.steps.invariant.way c.steps.invariant.settled c.in_default.ensures.none

pub returns-in_err-sizes-clause-left : goal.returns-in_err-sizes-clause-left
returns-in_err-sizes-clause-left c = units_itself (IsOfRoot c.args.p.now) c.args.ops.now c.args.domains.now c.pool.ensures.pinned_live c.pool.ensures.reduced

pub returns-in_err-queue-clause-left : goal.returns-in_err-queue-clause-left
returns-in_err-queue-clause-left c = units_itself (IsOfRoot c.args.p.now) c.args.ops.now c.args.domains.now c.pool.ensures.pinned_live c.pool.ensures.reduced
