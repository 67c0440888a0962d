use Rattle.std.proofs.Common.{◌++◌, subst}
use Rattle.diagram_arena.specs.Arena.{table}
use Rattle.pin_lists.specs.Units.{UnitsLeave}
use Rattle.domain_trail.specs.Trail.{held}
use Rattle.running_boxes.specs.Nodes.{IsOfVariable}
use Rattle.search_turns.specs.Work.{AssertLeaves}
use Rattle.explain.specs.Walks.{IsLearnedFrom, held_by, held_at}
use Rattle.running_boxes.specs.Running.{box_of_conflict}
use Rattle.search_turns.proofs.Turns.{root_turn, halted_turn, running_held, ready_to_assert, assert_turn, stopped_turn}
use Rattle.search_turns.proofs.turning.turn.Goals as goal

pub assert_box-requires-clause-ready : goal.assert_box-requires-clause-ready
assert_box-requires-clause-ready c = ready_to_assert c.laws.ensures c.args.p.now c.turn_laws.ensures c.args.layout.now c.args.compiled.now c.args.ops.now c.args.boxes.now c.args.trail.now c.requires.standing c.analyse.new.ops c.analyse.new.trail c.in-Ok-Asserting.held c.in-Ok-Asserting.var c.in-Ok-Asserting.level (subst (λ x. IsLearnedFrom c.args.p.now c.args.layout.now (table c.args.ops.now.arena) (table c.analyse.new.ops.arena) c.args.boxes.now c.args.trail.now c.analyse.new.trail x) c.in-Ok-Asserting.field-0-is c.in-Ok-Asserting.ensures.learned) (subst (λ x. UnitsLeave (IsOfVariable c.args.layout.now) c.args.ops.now c.analyse.new.ops (held c.args.trail.now) (held c.analyse.new.trail ++ held_by x)) c.in-Ok-Asserting.field-0-is c.in-Ok-Asserting.ensures.pinned)

pub keep_running-requires-clause-held : goal.keep_running-requires-clause-held
keep_running-requires-clause-held c = running_held c.laws.ensures c.args.p.now c.turn_laws.ensures c.args.layout.now c.args.compiled.now c.args.ops.now c.args.boxes.now c.args.trail.now c.requires.standing c.analyse.new.ops c.analyse.new.trail (held_at c.in-Err.stop) c.in-Err.ensures.held_on

pub returns-in-Ok-Root-clause-left : goal.returns-in-Ok-Root-clause-left
returns-in-Ok-Root-clause-left c = root_turn c.laws.ensures c.args.p.now c.turn_laws.ensures c.args.layout.now c.args.compiled.now c.args.ops.now c.args.boxes.now c.args.trail.now c.requires.standing c.analyse.new.ops c.analyse.new.trail (subst (λ x. IsLearnedFrom c.args.p.now c.args.layout.now (table c.args.ops.now.arena) (table c.analyse.new.ops.arena) c.args.boxes.now c.args.trail.now c.analyse.new.trail x) c.in-Ok-Root.field-0-is c.in-Ok-Root.ensures.learned) (subst (λ x. UnitsLeave (IsOfVariable c.args.layout.now) c.args.ops.now c.analyse.new.ops (held c.args.trail.now) (held c.analyse.new.trail ++ held_by x)) c.in-Ok-Root.field-0-is c.in-Ok-Root.ensures.pinned)

pub returns-in-Ok-clause-left : goal.returns-in-Ok-clause-left
returns-in-Ok-clause-left c = assert_turn c.laws.ensures c.args.p.now c.turn_laws.ensures c.args.layout.now c.args.compiled.now c.args.ops.now c.args.boxes.now c.args.trail.now c.requires.standing c.analyse.new.ops c.analyse.new.trail c.in-Ok-Asserting.held c.in-Ok-Asserting.var c.in-Ok-Asserting.level (subst (λ x. IsLearnedFrom c.args.p.now c.args.layout.now (table c.args.ops.now.arena) (table c.analyse.new.ops.arena) c.args.boxes.now c.args.trail.now c.analyse.new.trail x) c.in-Ok-Asserting.field-0-is c.in-Ok-Asserting.ensures.learned) (subst (λ x. UnitsLeave (IsOfVariable c.args.layout.now) c.args.ops.now c.analyse.new.ops (held c.args.trail.now) (held c.analyse.new.trail ++ held_by x)) c.in-Ok-Asserting.field-0-is c.in-Ok-Asserting.ensures.pinned) c.assert_box.new.ops c.assert_box.new.boxes c.assert_box.new.trail c.requires.legal (subst (λ r. AssertLeaves c.args.layout.now c.analyse.new.ops c.assert_box.new.ops c.args.boxes.now c.analyse.new.trail c.assert_box.new.boxes c.assert_box.new.trail c.in-Ok-Asserting.held c.in-Ok-Asserting.var r) c.in-Ok.is c.assert_box.ensures.left)

pub returns-in-Err-assert_box-clause-left : goal.returns-in-Err-assert_box-clause-left
returns-in-Err-assert_box-clause-left c = stopped_turn c.laws.ensures c.args.p.now c.turn_laws.ensures c.args.layout.now c.args.compiled.now c.args.ops.now c.args.boxes.now c.args.trail.now c.requires.standing c.analyse.new.ops c.analyse.new.trail c.in-Ok-Asserting.held c.in-Ok-Asserting.var c.in-Ok-Asserting.level (subst (λ x. IsLearnedFrom c.args.p.now c.args.layout.now (table c.args.ops.now.arena) (table c.analyse.new.ops.arena) c.args.boxes.now c.args.trail.now c.analyse.new.trail x) c.in-Ok-Asserting.field-0-is c.in-Ok-Asserting.ensures.learned) (subst (λ x. UnitsLeave (IsOfVariable c.args.layout.now) c.args.ops.now c.analyse.new.ops (held c.args.trail.now) (held c.analyse.new.trail ++ held_by x)) c.in-Ok-Asserting.field-0-is c.in-Ok-Asserting.ensures.pinned) c.assert_box.new.ops c.assert_box.new.boxes c.assert_box.new.trail c.in-Err-assert_box.stop (subst (λ r. AssertLeaves c.args.layout.now c.analyse.new.ops c.assert_box.new.ops c.args.boxes.now c.analyse.new.trail c.assert_box.new.boxes c.assert_box.new.trail c.in-Ok-Asserting.held c.in-Ok-Asserting.var r) c.in-Err-assert_box.is c.assert_box.ensures.left)

pub returns-in-Err-clause-left : goal.returns-in-Err-clause-left
returns-in-Err-clause-left c = halted_turn c.laws.ensures c.args.p.now c.turn_laws.ensures c.args.layout.now c.args.compiled.now c.args.ops.now c.args.boxes.now c.args.trail.now c.requires.standing c.analyse.new.ops c.keep_running.new.ops c.analyse.new.trail c.keep_running.new.boxes (box_of_conflict c.args.p.now c.args.layout.now (table c.args.ops.now.arena) c.args.boxes.now c.args.trail.now.domains c.args.conflict) c.keep_running.ensures.only c.in-Err.stop c.keep_running.result c.in-Err.ensures.stopped c.in-Err.ensures.held_on c.in-Err.ensures.full c.pool-in-Err.ensures.pinned_live c.keep_running.ensures.moved c.keep_running.ensures.not_conflicts c.keep_running.ensures.kept
