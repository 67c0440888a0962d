use Rattle.std.proofs.Common.{Ok, Err, ap, ◌∙◌}
use Rattle.diagram_arena.specs.declared.nodes.Stop.{Stop}
use Rattle.box_clauses.specs.Sides.{sets_of}
use Rattle.search_turns.specs.States.{held_by_search}
use Rattle.search_turns.specs.declared.outcomes.FindStop.TheVariants as stops
use Rattle.search_turns.proofs.Pins.{only_last}
use Rattle.search_turns.proofs.Asserting.{stopped_learning, ready_to_narrow, narrowed_leaves}
use Rattle.search_turns.proofs.turning.assert_box.Goals as goal

pub learn-requires-clause-held : goal.learn-requires-clause-held
learn-requires-clause-held c = only_last c.args.ops.now (held_by_search c.args.trail.now c.args.boxes.now) (sets_of c.args.held) c.requires.ready.pinned

pub narrow_outside-requires : goal.narrow_outside-requires
narrow_outside-requires c = record { ready = ready_to_narrow c.laws.ensures c.args.layout.now c.args.ops.now c.learn.new.ops c.args.boxes.now c.learn.new.boxes c.args.trail.now c.args.held c.args.v c.requires.ready c.learn.ensures.only c.learn.ensures.moved c.pool.ensures.pinned_live c.pool.ensures.reduced c.in-Ok.ensures.stored c.in-Ok.id c.in-Ok.ensures.id }

pub returns-in-Ok-narrow_outside-clause-left : goal.returns-in-Ok-narrow_outside-clause-left
returns-in-Ok-narrow_outside-clause-left c = narrowed_leaves c.laws.ensures c.args.layout.now c.args.ops.now c.learn.new.ops c.args.boxes.now c.learn.new.boxes c.args.trail.now c.args.held c.args.v c.requires.ready c.learn.ensures.only c.learn.ensures.moved c.pool.ensures.pinned_live c.pool.ensures.reduced c.in-Ok.ensures.stored c.in-Ok.id c.in-Ok.ensures.id c.narrow_outside.new.ops c.narrow_outside.new.trail (Ok tt) c.learn.ensures.few c.in-Ok-narrow_outside.ensures.narrowed tt c.narrow_outside.ensures.left c.narrow_outside.ensures.kept (λ e. absurd (cc))

pub returns-in-Err-Full-clause-left : goal.returns-in-Err-Full-clause-left
returns-in-Err-Full-clause-left c = narrowed_leaves c.laws.ensures c.args.layout.now c.args.ops.now c.learn.new.ops c.args.boxes.now c.learn.new.boxes c.args.trail.now c.args.held c.args.v c.requires.ready c.learn.ensures.only c.learn.ensures.moved c.pool.ensures.pinned_live c.pool.ensures.reduced c.in-Ok.ensures.stored c.in-Ok.id c.in-Ok.ensures.id c.narrow_outside.new.ops c.narrow_outside.new.trail (Err stops.Full) c.learn.ensures.few tt c.in-Err-Full.ensures.same c.narrow_outside.ensures.left c.narrow_outside.ensures.kept (λ e. c.narrow_outside.ensures.full (c.in-Err-Full.is ∙ ap (λ (s : Stop). Err s) c.in-Err-Full.field-0-is))

pub returns-in-Err-Memory-clause-left : goal.returns-in-Err-Memory-clause-left
returns-in-Err-Memory-clause-left c = narrowed_leaves c.laws.ensures c.args.layout.now c.args.ops.now c.learn.new.ops c.args.boxes.now c.learn.new.boxes c.args.trail.now c.args.held c.args.v c.requires.ready c.learn.ensures.only c.learn.ensures.moved c.pool.ensures.pinned_live c.pool.ensures.reduced c.in-Ok.ensures.stored c.in-Ok.id c.in-Ok.ensures.id c.narrow_outside.new.ops c.narrow_outside.new.trail (Err stops.Memory) c.learn.ensures.few tt c.in-Err-Memory.ensures.same c.narrow_outside.ensures.left c.narrow_outside.ensures.kept (λ e. absurd (cc))

pub returns-in-Err-clause-left : goal.returns-in-Err-clause-left
returns-in-Err-clause-left c = stopped_learning c.laws.ensures c.args.layout.now c.args.ops.now c.learn.new.ops c.args.boxes.now c.learn.new.boxes c.args.trail.now c.args.held c.args.v c.requires.ready c.learn.ensures.only c.learn.ensures.moved c.pool.ensures.pinned_live c.pool.ensures.reduced c.in-Err.stop c.learn.result c.in-Err.is c.learn.ensures.few c.learn.ensures.not_full c.learn.ensures.stored
