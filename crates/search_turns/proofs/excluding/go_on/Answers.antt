use Rattle.std.proofs.Common.{Ok, ap, ◌∙◌, subst}
use Rattle.diagram_arena.specs.Arena.{table}
use Rattle.search_turns.specs.Work.{TurnLeaves}
use Rattle.search_turns.specs.declared.outcomes.Turn.{Turn}
use Rattle.search_turns.proofs.Further.{some_further}
use Rattle.search_turns.proofs.Rounds.{woken_settled, find_after}
use Rattle.search_turns.proofs.excluding.go_on.Goals as goal

pub find-requires-clause-legal : goal.find-requires-clause-legal
find-requires-clause-legal c = some_further c.args.p.now c.args.layout.now (table c.args.ops.now.arena) (table c.turn.new.ops.arena) c.args.boxes.now c.turn.new.boxes c.args.trail.now c.turn.new.trail (subst (TurnLeaves c.args.p.now c.args.layout.now c.args.compiled.now c.args.ops.now c.turn.new.ops c.args.boxes.now c.args.trail.now c.turn.new.boxes c.turn.new.trail) (c.in-Ok-Narrowed.is ∙ ap (λ (x : Turn). Ok x) c.in-Ok-Narrowed.field-0-is) c.turn.ensures.left).further c.requires.legal

pub find-requires-clause-settled : goal.find-requires-clause-settled
find-requires-clause-settled c = woken_settled c.args.p.now c.turn_laws.ensures c.args.layout.now (table c.turn.new.ops.arena) c.args.compiled.now (subst (TurnLeaves c.args.p.now c.args.layout.now c.args.compiled.now c.args.ops.now c.turn.new.ops c.args.boxes.now c.args.trail.now c.turn.new.boxes c.turn.new.trail) (c.in-Ok-Narrowed.is ∙ ap (λ (x : Turn). Ok x) c.in-Ok-Narrowed.field-0-is) c.turn.ensures.left).standing.compiled c.args.boxes.now c.turn.new.boxes c.args.trail.now c.turn.new.trail (table c.args.ops.now.arena) (table c.turn.new.ops.arena) c.in-Ok-Narrowed.v c.args.queue.now c.wake.new.queue c.requires.queue c.wake.ensures (subst (TurnLeaves c.args.p.now c.args.layout.now c.args.compiled.now c.args.ops.now c.turn.new.ops c.args.boxes.now c.args.trail.now c.turn.new.boxes c.turn.new.trail) (c.in-Ok-Narrowed.is ∙ ap (λ (x : Turn). Ok x) c.in-Ok-Narrowed.field-0-is) c.turn.ensures.left).turned

pub returns-in-Ok-Narrowed-clause-left : goal.returns-in-Ok-Narrowed-clause-left
returns-in-Ok-Narrowed-clause-left c = find_after c.args.p.now c.args.layout.now c.args.compiled.now c.args.ops.now c.turn.new.ops c.find.new.ops c.args.boxes.now c.args.trail.now c.turn.new.boxes c.turn.new.trail c.find.new.boxes c.find.new.trail (subst (TurnLeaves c.args.p.now c.args.layout.now c.args.compiled.now c.args.ops.now c.turn.new.ops c.args.boxes.now c.args.trail.now c.turn.new.boxes c.turn.new.trail) (c.in-Ok-Narrowed.is ∙ ap (λ (x : Turn). Ok x) c.in-Ok-Narrowed.field-0-is) c.turn.ensures.left).further (subst (TurnLeaves c.args.p.now c.args.layout.now c.args.compiled.now c.args.ops.now c.turn.new.ops c.args.boxes.now c.args.trail.now c.turn.new.boxes c.turn.new.trail) (c.in-Ok-Narrowed.is ∙ ap (λ (x : Turn). Ok x) c.in-Ok-Narrowed.field-0-is) c.turn.ensures.left).left c.find.result (record {
  found = c.find.ensures.found;
  further = c.find.ensures.further;
  standing = c.find.ensures.standing;
  left = c.find.ensures.left;
  full = c.find.ensures.full;
})
