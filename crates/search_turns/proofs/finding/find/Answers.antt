use Rattle.std.proofs.Common.{Ok, refl, ap, ◌∙◌, subst}
use Rattle.search_turns.specs.Work.{TurnLeaves}
use Rattle.search_turns.specs.declared.outcomes.Turn.{Turn}
use Rattle.search_turns.proofs.Rounds.{begins, some_now, goes_on, ends, stops}
use Rattle.search_turns.proofs.finding.find.Goals as goal

pub turns-init : goal.turns-init
turns-init c = record {
  way = begins c.args.p.now c.args.layout.now c.args.compiled.now c.args.conflicts c.args.ops.now c.args.boxes.now c.args.trail.now c.args.queue.now c.args.learned.now c.requires.standing c.pool.ensures.pinned_live c.pool.ensures.reduced c.requires.queue c.requires.settled c.requires.counted c.requires.capped;
  sizes = refl;
}

pub advance-requires-clause-legal : goal.advance-requires-clause-legal
advance-requires-clause-legal c = some_now c.args.p.now c.turn_laws.ensures c.args.layout.now c.args.compiled.now c.args.conflicts c.args.ops.now c.turns.ops c.turns.ops c.args.boxes.now c.args.trail.now c.turns.boxes c.turns.trail c.turns.boxes c.turns.trail c.turns.queue c.turns.learned c.turns.invariant.way c.requires.legal

pub turns-preserved : goal.turns-preserved
turns-preserved c = record {
  way = goes_on c.args.p.now c.turn_laws.ensures c.args.layout.now c.args.compiled.now c.args.conflicts c.args.ops.now c.turns.ops c.advance.new.ops c.args.boxes.now c.args.trail.now c.turns.boxes c.turns.trail c.advance.new.boxes c.advance.new.trail c.turns.queue c.turns.learned c.turns.invariant.way c.advance.new.queue c.wake.new.queue c.advance.new.learned c.in-Ok-Narrowed.v (subst (TurnLeaves c.args.p.now c.args.layout.now c.args.compiled.now c.turns.ops c.advance.new.ops c.turns.boxes c.turns.trail c.advance.new.boxes c.advance.new.trail) (c.in-Ok-Narrowed.is ∙ ap (λ (x : Turn). Ok x) c.in-Ok-Narrowed.field-0-is) c.advance.ensures.left) c.advance.ensures.queue c.wake.ensures c.advance.ensures.counted c.in-Ok-Narrowed.ensures.capped;
  sizes = c.advance.ensures.sizes ∙ c.turns.invariant.sizes;
}

pub returns-in-Ok-Ended-clause-found : goal.returns-in-Ok-Ended-clause-found
returns-in-Ok-Ended-clause-found c = (ends c.args.p.now c.turn_laws.ensures c.args.layout.now c.args.compiled.now c.args.conflicts c.args.ops.now c.turns.ops c.advance.new.ops c.args.boxes.now c.args.trail.now c.turns.boxes c.turns.trail c.advance.new.boxes c.advance.new.trail c.turns.queue c.turns.learned c.turns.invariant.way c.in-Ok-Ended.found (subst (TurnLeaves c.args.p.now c.args.layout.now c.args.compiled.now c.turns.ops c.advance.new.ops c.turns.boxes c.turns.trail c.advance.new.boxes c.advance.new.trail) (c.in-Ok-Ended.is ∙ ap (λ (x : Turn). Ok x) c.in-Ok-Ended.field-0-is) c.advance.ensures.left)).found

pub returns-in-Ok-Ended-clause-further : goal.returns-in-Ok-Ended-clause-further
returns-in-Ok-Ended-clause-further c = (ends c.args.p.now c.turn_laws.ensures c.args.layout.now c.args.compiled.now c.args.conflicts c.args.ops.now c.turns.ops c.advance.new.ops c.args.boxes.now c.args.trail.now c.turns.boxes c.turns.trail c.advance.new.boxes c.advance.new.trail c.turns.queue c.turns.learned c.turns.invariant.way c.in-Ok-Ended.found (subst (TurnLeaves c.args.p.now c.args.layout.now c.args.compiled.now c.turns.ops c.advance.new.ops c.turns.boxes c.turns.trail c.advance.new.boxes c.advance.new.trail) (c.in-Ok-Ended.is ∙ ap (λ (x : Turn). Ok x) c.in-Ok-Ended.field-0-is) c.advance.ensures.left)).further

pub returns-in-Ok-Ended-clause-left : goal.returns-in-Ok-Ended-clause-left
returns-in-Ok-Ended-clause-left c = (ends c.args.p.now c.turn_laws.ensures c.args.layout.now c.args.compiled.now c.args.conflicts c.args.ops.now c.turns.ops c.advance.new.ops c.args.boxes.now c.args.trail.now c.turns.boxes c.turns.trail c.advance.new.boxes c.advance.new.trail c.turns.queue c.turns.learned c.turns.invariant.way c.in-Ok-Ended.found (subst (TurnLeaves c.args.p.now c.args.layout.now c.args.compiled.now c.turns.ops c.advance.new.ops c.turns.boxes c.turns.trail c.advance.new.boxes c.advance.new.trail) (c.in-Ok-Ended.is ∙ ap (λ (x : Turn). Ok x) c.in-Ok-Ended.field-0-is) c.advance.ensures.left)).left

pub returns-in-Err-clause-further : goal.returns-in-Err-clause-further
returns-in-Err-clause-further c = (stops c.args.p.now c.turn_laws.ensures c.args.layout.now c.args.compiled.now c.args.conflicts c.args.ops.now c.turns.ops c.advance.new.ops c.args.boxes.now c.args.trail.now c.turns.boxes c.turns.trail c.advance.new.boxes c.advance.new.trail c.turns.queue c.turns.learned c.turns.invariant.way c.in-Err.stop (subst (TurnLeaves c.args.p.now c.args.layout.now c.args.compiled.now c.turns.ops c.advance.new.ops c.turns.boxes c.turns.trail c.advance.new.boxes c.advance.new.trail) c.in-Err.is c.advance.ensures.left)).further

pub returns-in-Err-clause-left : goal.returns-in-Err-clause-left
returns-in-Err-clause-left c = (stops c.args.p.now c.turn_laws.ensures c.args.layout.now c.args.compiled.now c.args.conflicts c.args.ops.now c.turns.ops c.advance.new.ops c.args.boxes.now c.args.trail.now c.turns.boxes c.turns.trail c.advance.new.boxes c.advance.new.trail c.turns.queue c.turns.learned c.turns.invariant.way c.in-Err.stop (subst (TurnLeaves c.args.p.now c.args.layout.now c.args.compiled.now c.turns.ops c.advance.new.ops c.turns.boxes c.turns.trail c.advance.new.boxes c.advance.new.trail) c.in-Err.is c.advance.ensures.left)).left
