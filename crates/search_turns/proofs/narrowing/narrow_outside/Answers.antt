use Rattle.std.proofs.Common.{subst}
use Rattle.pin_lists.specs.Units.{UnitsLeave}
use Rattle.pin_lists.proofs.Leaving.{units_begun}
use Rattle.domain_trail.specs.Trail.{TrailState, held}
use Rattle.running_boxes.specs.Nodes.{IsOfVariable}
use Rattle.search_turns.proofs.Units.{keeps_begun, held_again, means_again, left_again, keeps_again}
use Rattle.search_turns.proofs.Outside.{ready_still}
use Rattle.search_turns.proofs.narrowing.narrow_outside.Goals as goal

pub returns-in-Ok-clause-left : goal.returns-in-Ok-clause-left
returns-in-Ok-clause-left c = units_begun (IsOfVariable c.args.layout.now) c.args.ops.now c.begin_unit.new.self c.attempt.new.ops (held c.args.trail.now) (held c.attempt.new.trail) c.begin_unit.ensures.only c.attempt.ensures.left

pub returns-in-Ok-clause-kept : goal.returns-in-Ok-clause-kept
returns-in-Ok-clause-kept c = keeps_begun c.args.ops.now c.begin_unit.new.self c.begin_unit.ensures.only c.attempt.new.ops c.attempt.ensures.kept

pub returns-in-Err-Memory-clause-left : goal.returns-in-Err-Memory-clause-left
returns-in-Err-Memory-clause-left c = units_begun (IsOfVariable c.args.layout.now) c.args.ops.now c.begin_unit.new.self c.attempt.new.ops (held c.args.trail.now) (held c.attempt.new.trail) c.begin_unit.ensures.only c.attempt.ensures.left

pub returns-in-Err-Memory-clause-kept : goal.returns-in-Err-Memory-clause-kept
returns-in-Err-Memory-clause-kept c = keeps_begun c.args.ops.now c.begin_unit.new.self c.begin_unit.ensures.only c.attempt.new.ops c.attempt.ensures.kept

pub attempt-requires-in-Err-Full : goal.attempt-requires-in-Err-Full
attempt-requires-in-Err-Full c = record { ready = ready_still c.laws.ensures c.args.layout.now c.args.ops.now c.begin_unit-in-Err-Full.new.self c.args.boxes.now c.args.trail.now c.args.id c.args.v c.requires.ready (means_again (IsOfVariable c.args.layout.now) c.args.ops.now c.begin_unit.new.self c.attempt.new.ops c.collect.new.ops c.begin_unit-in-Err-Full.new.self (held c.args.trail.now) c.begin_unit.ensures.only (subst (λ (x : TrailState). UnitsLeave (IsOfVariable c.args.layout.now) c.begin_unit.new.self c.attempt.new.ops (held c.args.trail.now) (held x)) c.in-Err-Full.ensures.same c.attempt.ensures.left) c.attempt.ensures.kept c.collect.ensures c.begin_unit-in-Err-Full.ensures.only) (held_again (IsOfVariable c.args.layout.now) c.args.ops.now c.begin_unit.new.self c.attempt.new.ops c.collect.new.ops c.begin_unit-in-Err-Full.new.self (held c.args.trail.now) c.begin_unit.ensures.only (subst (λ (x : TrailState). UnitsLeave (IsOfVariable c.args.layout.now) c.begin_unit.new.self c.attempt.new.ops (held c.args.trail.now) (held x)) c.in-Err-Full.ensures.same c.attempt.ensures.left) c.attempt.ensures.kept c.collect.ensures c.begin_unit-in-Err-Full.ensures.only) c.attempt.new.trail c.in-Err-Full.ensures.same }

pub returns-in-Err-Full-clause-left : goal.returns-in-Err-Full-clause-left
returns-in-Err-Full-clause-left c = left_again (IsOfVariable c.args.layout.now) c.args.ops.now c.begin_unit.new.self c.attempt.new.ops c.collect.new.ops c.begin_unit-in-Err-Full.new.self (held c.args.trail.now) c.begin_unit.ensures.only (subst (λ (x : TrailState). UnitsLeave (IsOfVariable c.args.layout.now) c.begin_unit.new.self c.attempt.new.ops (held c.args.trail.now) (held x)) c.in-Err-Full.ensures.same c.attempt.ensures.left) c.attempt.ensures.kept c.collect.ensures c.begin_unit-in-Err-Full.ensures.only c.attempt-in-Err-Full.new.ops (held c.attempt-in-Err-Full.new.trail) (subst (λ (x : TrailState). UnitsLeave (IsOfVariable c.args.layout.now) c.begin_unit-in-Err-Full.new.self c.attempt-in-Err-Full.new.ops (held x) (held c.attempt-in-Err-Full.new.trail)) c.in-Err-Full.ensures.same c.attempt-in-Err-Full.ensures.left)

pub returns-in-Err-Full-clause-kept : goal.returns-in-Err-Full-clause-kept
returns-in-Err-Full-clause-kept c = keeps_again (IsOfVariable c.args.layout.now) c.args.ops.now c.begin_unit.new.self c.attempt.new.ops c.collect.new.ops c.begin_unit-in-Err-Full.new.self (held c.args.trail.now) c.begin_unit.ensures.only (subst (λ (x : TrailState). UnitsLeave (IsOfVariable c.args.layout.now) c.begin_unit.new.self c.attempt.new.ops (held c.args.trail.now) (held x)) c.in-Err-Full.ensures.same c.attempt.ensures.left) c.attempt.ensures.kept c.collect.ensures c.begin_unit-in-Err-Full.ensures.only c.attempt-in-Err-Full.new.ops c.attempt-in-Err-Full.ensures.kept
