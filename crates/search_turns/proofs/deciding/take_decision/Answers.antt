use Rattle.std.proofs.Common.{Err, ap, ◌∙◌, subst}
use Rattle.diagram_arena.specs.declared.nodes.Stop.{Stop}
use Rattle.diagram_arena.specs.Arena.{table}
use Rattle.search_turns.specs.Work.{IsDecisionTaken}
use Rattle.search_turns.proofs.Decisions.{ready_to_decide, opened_branch, single_branch, full_branch, memory_branch}
use Rattle.search_turns.proofs.deciding.take_decision.Goals as goal

pub decide-requires : goal.decide-requires
decide-requires c = record { ready = ready_to_decide c.args.p.now c.args.layout.now c.args.ops.now c.args.compiled.now c.args.boxes.now c.args.trail.now c.requires.standing }

pub returns-in-Ok-Some-clause-left : goal.returns-in-Ok-Some-clause-left
returns-in-Ok-Some-clause-left c = opened_branch c.laws.ensures c.args.p.now c.turn_laws.ensures c.args.layout.now c.args.compiled.now c.args.ops.now c.decide.new.ops c.args.boxes.now c.args.trail.now c.decide.new.trail c.requires.standing c.decide.ensures.left c.decide.ensures.kept c.requires.quiet c.in-Ok-Some.v (subst (λ o. IsDecisionTaken c.args.layout.now (table c.decide.new.ops.arena) c.args.trail.now c.decide.new.trail o) c.in-Ok-Some.field-0-is c.in-Ok-Some.ensures.taken) c.requires.legal

pub returns-in-Ok-None-clause-left : goal.returns-in-Ok-None-clause-left
returns-in-Ok-None-clause-left c = single_branch c.laws.ensures c.args.p.now c.turn_laws.ensures c.args.layout.now c.args.compiled.now c.args.ops.now c.decide.new.ops c.args.boxes.now c.args.trail.now c.decide.new.trail c.requires.standing c.decide.ensures.left c.decide.ensures.kept c.requires.quiet (subst (λ o. IsDecisionTaken c.args.layout.now (table c.decide.new.ops.arena) c.args.trail.now c.decide.new.trail o) c.in-Ok-None.field-0-is c.in-Ok-None.ensures.taken)

pub returns-in-Err-Full-clause-left : goal.returns-in-Err-Full-clause-left
returns-in-Err-Full-clause-left c = full_branch c.laws.ensures c.args.p.now c.turn_laws.ensures c.args.layout.now c.args.compiled.now c.args.ops.now c.decide.new.ops c.args.boxes.now c.args.trail.now c.decide.new.trail c.requires.standing c.decide.ensures.left c.decide.ensures.kept (c.decide.ensures.same (c.in-Err-Full.is ∙ ap (λ (s : Stop). Err s) c.in-Err-Full.field-0-is)) (c.decide.ensures.full (c.in-Err-Full.is ∙ ap (λ (s : Stop). Err s) c.in-Err-Full.field-0-is))

pub returns-in-Err-Memory-clause-left : goal.returns-in-Err-Memory-clause-left
returns-in-Err-Memory-clause-left c = memory_branch c.laws.ensures c.args.p.now c.turn_laws.ensures c.args.layout.now c.args.compiled.now c.args.ops.now c.decide.new.ops c.args.boxes.now c.args.trail.now c.decide.new.trail c.requires.standing c.decide.ensures.left c.decide.ensures.kept
