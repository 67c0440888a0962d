use Rattle.std.proofs.Common.{refl, sym, subst}
use Rattle.std.specs.Prelude.{slice_get}
use Rattle.diagram_arena.specs.Arena.{table}
use Rattle.exact_steps.specs.Domains.{AreDomains}
use Rattle.domain_trail.specs.Trail.{held}
use Rattle.box_clauses.specs.Stored.{stored_sets}
use Rattle.propagation.proofs.Moving.{family_kept}
use Rattle.propagation.proofs.Boxes.{sides_are, are_sides, box_answer, box_news}
use Rattle.propagation.proofs.stepping.by_box.Goals as goal

pub box_step-requires-clause-sides : goal.box_step-requires-clause-sides
box_step-requires-clause-sides c = are_sides c.args.layout.now (table c.args.ops.now.arena) c.args.boxes.now (slice_get c.args.boxes.now c.args.b.0) c.args.b.0 c.sides.result.now refl c.requires.ready.legal.readable.boxes c.sides.ensures

pub box_step-requires-clause-domains : goal.box_step-requires-clause-domains
box_step-requires-clause-domains c = subst (AreDomains c.args.layout.now (table c.args.ops.now.arena)) (sym c.domains.ensures) c.requires.ready.legal.readable.domains

pub returns-in_err-answer-clause-made : goal.returns-in_err-answer-clause-made
returns-in_err-answer-clause-made c = box_news c.args.p.now c.args.layout.now (table c.args.ops.now.arena) (table c.box_step.new.ops.arena) c.args.boxes.now c.args.b c.args.trail.now.domains c.requires.known c.laws.ensures.boxes (c.laws.ensures.stay.under c.args.layout.now (table c.args.ops.now.arena) (table c.box_step.new.ops.arena) c.args.boxes.now c.args.b.0 (c.laws.ensures.stay.grown (table c.args.ops.now.arena) (table c.box_step.new.ops.arena) (stored_sets c.args.boxes.now) c.box_step.ensures.stays.grows (c.laws.ensures.stay.live c.args.layout.now (table c.args.ops.now.arena) c.args.boxes.now c.args.trail.now c.requires.ready.legal.readable).1)) (family_kept c.laws.ensures.stay c.args.layout.now (table c.args.ops.now.arena) (table c.box_step.new.ops.arena) c.args.trail.now (c.laws.ensures.stay.grown (table c.args.ops.now.arena) (table c.box_step.new.ops.arena) (held c.args.trail.now) c.box_step.ensures.stays.grows (c.laws.ensures.stay.live c.args.layout.now (table c.args.ops.now.arena) c.args.boxes.now c.args.trail.now c.requires.ready.legal.readable).0)) c.domains.result.now c.domains.ensures c.sides.result.now (sides_are (slice_get c.args.boxes.now c.args.b.0) c.sides.result.now c.sides.ensures) c.box_step.ensures.parts

pub returns-in_err-listed-clause-made : goal.returns-in_err-listed-clause-made
returns-in_err-listed-clause-made c = box_news c.args.p.now c.args.layout.now (table c.args.ops.now.arena) (table c.box_step.new.ops.arena) c.args.boxes.now c.args.b c.args.trail.now.domains c.requires.known c.laws.ensures.boxes (c.laws.ensures.stay.under c.args.layout.now (table c.args.ops.now.arena) (table c.box_step.new.ops.arena) c.args.boxes.now c.args.b.0 (c.laws.ensures.stay.grown (table c.args.ops.now.arena) (table c.box_step.new.ops.arena) (stored_sets c.args.boxes.now) c.box_step.ensures.stays.grows (c.laws.ensures.stay.live c.args.layout.now (table c.args.ops.now.arena) c.args.boxes.now c.args.trail.now c.requires.ready.legal.readable).1)) (family_kept c.laws.ensures.stay c.args.layout.now (table c.args.ops.now.arena) (table c.box_step.new.ops.arena) c.args.trail.now (c.laws.ensures.stay.grown (table c.args.ops.now.arena) (table c.box_step.new.ops.arena) (held c.args.trail.now) c.box_step.ensures.stays.grows (c.laws.ensures.stay.live c.args.layout.now (table c.args.ops.now.arena) c.args.boxes.now c.args.trail.now c.requires.ready.legal.readable).0)) c.domains.result.now c.domains.ensures c.sides.result.now (sides_are (slice_get c.args.boxes.now c.args.b.0) c.sides.result.now c.sides.ensures) c.box_step.ensures.parts

pub returns-clause-made : goal.returns-clause-made
returns-clause-made c = box_news c.args.p.now c.args.layout.now (table c.args.ops.now.arena) (table c.box_step.new.ops.arena) c.args.boxes.now c.args.b c.args.trail.now.domains c.requires.known c.laws.ensures.boxes (c.laws.ensures.stay.under c.args.layout.now (table c.args.ops.now.arena) (table c.box_step.new.ops.arena) c.args.boxes.now c.args.b.0 (c.laws.ensures.stay.grown (table c.args.ops.now.arena) (table c.box_step.new.ops.arena) (stored_sets c.args.boxes.now) c.box_step.ensures.stays.grows (c.laws.ensures.stay.live c.args.layout.now (table c.args.ops.now.arena) c.args.boxes.now c.args.trail.now c.requires.ready.legal.readable).1)) (family_kept c.laws.ensures.stay c.args.layout.now (table c.args.ops.now.arena) (table c.box_step.new.ops.arena) c.args.trail.now (c.laws.ensures.stay.grown (table c.args.ops.now.arena) (table c.box_step.new.ops.arena) (held c.args.trail.now) c.box_step.ensures.stays.grows (c.laws.ensures.stay.live c.args.layout.now (table c.args.ops.now.arena) c.args.boxes.now c.args.trail.now c.requires.ready.legal.readable).0)) c.domains.result.now c.domains.ensures c.sides.result.now (sides_are (slice_get c.args.boxes.now c.args.b.0) c.sides.result.now c.sides.ensures) c.box_step.ensures.parts

pub returns-clause-answer : goal.returns-clause-answer
returns-clause-answer c = box_answer c.args.p.now c.args.layout.now (table c.args.ops.now.arena) (table c.box_step.new.ops.arena) c.args.boxes.now c.args.b c.args.trail.now.domains c.requires.known c.laws.ensures.boxes (c.laws.ensures.stay.under c.args.layout.now (table c.args.ops.now.arena) (table c.box_step.new.ops.arena) c.args.boxes.now c.args.b.0 (c.laws.ensures.stay.grown (table c.args.ops.now.arena) (table c.box_step.new.ops.arena) (stored_sets c.args.boxes.now) c.box_step.ensures.stays.grows (c.laws.ensures.stay.live c.args.layout.now (table c.args.ops.now.arena) c.args.boxes.now c.args.trail.now c.requires.ready.legal.readable).1)) (family_kept c.laws.ensures.stay c.args.layout.now (table c.args.ops.now.arena) (table c.box_step.new.ops.arena) c.args.trail.now (c.laws.ensures.stay.grown (table c.args.ops.now.arena) (table c.box_step.new.ops.arena) (held c.args.trail.now) c.box_step.ensures.stays.grows (c.laws.ensures.stay.live c.args.layout.now (table c.args.ops.now.arena) c.args.boxes.now c.args.trail.now c.requires.ready.legal.readable).0)) c.domains.result.now c.domains.ensures c.sides.result.now (sides_are (slice_get c.args.boxes.now c.args.b.0) c.sides.result.now c.sides.ensures) c.in_ok-answer.answer c.in_ok-listed.listed c.in_ok-listed.ensures c.in_ok-answer.ensures.domain c.in_ok-answer.ensures.step
