use Rattle.std.proofs.Common.{Err, ap, ◌∙◌}
use Rattle.diagram_arena.specs.declared.nodes.Stop.{Stop}
use Rattle.search_turns.proofs.Rounds.{spread_standing, spread_some, full_spread, memory_spread, turn_after}
use Rattle.search_turns.proofs.finding.advance.Goals as goal

pub take_decision-requires-clause-standing : goal.take_decision-requires-clause-standing
take_decision-requires-clause-standing c = spread_standing c.laws.ensures c.args.p.now c.args.layout.now c.args.compiled.now c.args.ops.now c.propagate.new.ops c.args.boxes.now c.args.trail.now c.propagate.new.trail c.requires.standing c.propagate.ensures.narrowed c.propagate.ensures.left

pub take_decision-requires-clause-legal : goal.take_decision-requires-clause-legal
take_decision-requires-clause-legal c = spread_some c.laws.ensures c.args.p.now c.args.layout.now c.args.compiled.now c.args.ops.now c.propagate.new.ops c.args.boxes.now c.args.trail.now c.propagate.new.trail c.requires.standing c.propagate.ensures.narrowed c.propagate.ensures.left c.requires.legal

pub turn-requires-clause-standing : goal.turn-requires-clause-standing
turn-requires-clause-standing c = spread_standing c.laws.ensures c.args.p.now c.args.layout.now c.args.compiled.now c.args.ops.now c.propagate.new.ops c.args.boxes.now c.args.trail.now c.propagate.new.trail c.requires.standing c.propagate.ensures.narrowed c.propagate.ensures.left

pub turn-requires-clause-legal : goal.turn-requires-clause-legal
turn-requires-clause-legal c = spread_some c.laws.ensures c.args.p.now c.args.layout.now c.args.compiled.now c.args.ops.now c.propagate.new.ops c.args.boxes.now c.args.trail.now c.propagate.new.trail c.requires.standing c.propagate.ensures.narrowed c.propagate.ensures.left c.requires.legal

pub returns-in-Ok-Quiet-clause-left : goal.returns-in-Ok-Quiet-clause-left
returns-in-Ok-Quiet-clause-left c = turn_after c.laws.ensures c.args.p.now c.args.layout.now c.args.compiled.now c.args.ops.now c.propagate.new.ops c.args.boxes.now c.args.trail.now c.propagate.new.trail c.requires.standing c.propagate.ensures.narrowed c.propagate.ensures.left c.take_decision.new.ops c.args.boxes.now c.take_decision.new.trail c.take_decision.result c.requires.legal c.take_decision.ensures.left

pub returns-in-Ok-Conflict-clause-left : goal.returns-in-Ok-Conflict-clause-left
returns-in-Ok-Conflict-clause-left c = turn_after c.laws.ensures c.args.p.now c.args.layout.now c.args.compiled.now c.args.ops.now c.propagate.new.ops c.args.boxes.now c.args.trail.now c.propagate.new.trail c.requires.standing c.propagate.ensures.narrowed c.propagate.ensures.left c.turn.new.ops c.turn.new.boxes c.turn.new.trail c.turn.result c.requires.legal c.turn.ensures.left

pub returns-in-Err-Full-clause-left : goal.returns-in-Err-Full-clause-left
returns-in-Err-Full-clause-left c = full_spread c.laws.ensures c.args.p.now c.args.layout.now c.args.compiled.now c.args.ops.now c.propagate.new.ops c.args.boxes.now c.args.trail.now c.propagate.new.trail c.requires.standing c.propagate.ensures.narrowed c.propagate.ensures.left (c.propagate.ensures.full (c.in-Err-Full.is ∙ ap (λ (s : Stop). Err s) c.in-Err-Full.field-0-is))

pub returns-in-Err-Memory-clause-left : goal.returns-in-Err-Memory-clause-left
returns-in-Err-Memory-clause-left c = memory_spread c.laws.ensures c.args.p.now c.args.layout.now c.args.compiled.now c.args.ops.now c.propagate.new.ops c.args.boxes.now c.args.trail.now c.propagate.new.trail c.requires.standing c.propagate.ensures.narrowed c.propagate.ensures.left
