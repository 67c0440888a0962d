use Rattle.std.proofs.Common.{◌≡◌, List, Some, sym, ap, ◌∙◌, subst}
use Rattle.std.specs.Prelude.{slice_get}
use Rattle.diagram_arena.specs.declared.nodes.Ref.{Ref}
use Rattle.diagram_arena.specs.Arena.{table}
use Rattle.node_reclaim.specs.Pool.{PoolState}
use Rattle.domain_trail.specs.Trail.{held}
use Rattle.box_clauses.specs.declared.sides.Side.{Side}
use Rattle.running_boxes.specs.Nodes.{IsOfVariable}
use Rattle.running_boxes.proofs.Newest.{sides_read}
use Rattle.search_turns.specs.Work.{set_of}
use Rattle.search_turns.proofs.Units.{try_leaves, try_keeps, pinned_leaves, pinned_keeps}
use Rattle.search_turns.proofs.Outside.{side_is_set, domain_is_set, has_side, news, narrowed_outside}
use Rattle.search_turns.proofs.narrowing.attempt.Goals as goal

pub difference-requires-clause-first : goal.difference-requires-clause-first
difference-requires-clause-first c = domain_is_set c.laws.ensures c.args.layout.now c.args.ops.now c.args.boxes.now c.args.trail.now c.args.id c.args.v c.requires.ready c.set_at-domain.result (subst (λ (ds : List Ref). slice_get ds c.args.v.0 ≡ Some c.set_at-domain.result) c.domains.ensures c.set_at-domain.ensures)

pub difference-requires-clause-second : goal.difference-requires-clause-second
difference-requires-clause-second c = side_is_set c.laws.ensures c.args.layout.now c.args.ops.now c.args.boxes.now c.args.trail.now c.args.id c.args.v c.requires.ready c.in-Some.side (ap (λ (ss : List Side). set_of ss c.args.v.0) (sides_read c.args.boxes.now c.args.id.0 c.sides.result.now c.sides.ensures) ∙ sym c.set_of.ensures ∙ c.in-Some.is)

pub returns-in_err-to-in-Some-clause-left : goal.returns-in_err-to-in-Some-clause-left
returns-in_err-to-in-Some-clause-left c = try_leaves (IsOfVariable c.args.layout.now) c.args.ops.now c.difference.new.ops (held c.args.trail.now) c.pool.ensures.pinned_live c.difference.ensures.stays (news c.laws.ensures c.args.layout.now c.args.ops.now c.args.boxes.now c.args.trail.now c.args.id c.args.v c.requires.ready _ (table c.difference.new.ops.arena) c.difference.ensures.parts)

pub returns-in_err-to-in-Some-clause-kept : goal.returns-in_err-to-in-Some-clause-kept
returns-in_err-to-in-Some-clause-kept c = try_keeps (IsOfVariable c.args.layout.now) c.args.ops.now c.difference.new.ops (held c.args.trail.now) c.pool.ensures.pinned_live c.difference.ensures.stays (news c.laws.ensures c.args.layout.now c.args.ops.now c.args.boxes.now c.args.trail.now c.args.id c.args.v c.requires.ready _ (table c.difference.new.ops.arena) c.difference.ensures.parts)

pub returns-in_err-narrow-in-Some-clause-left : goal.returns-in_err-narrow-in-Some-clause-left
returns-in_err-narrow-in-Some-clause-left c = pinned_leaves (IsOfVariable c.args.layout.now) c.args.ops.now c.difference.new.ops (held c.args.trail.now) c.pool.ensures.pinned_live c.difference.ensures.stays (news c.laws.ensures c.args.layout.now c.args.ops.now c.args.boxes.now c.args.trail.now c.args.id c.args.v c.requires.ready _ (table c.difference.new.ops.arena) c.difference.ensures.parts) c.narrow.new.ops (held c.narrow.new.self) (ap (λ (s : PoolState). s.arena) c.narrow.ensures.only) c.narrow.ensures.moved

pub returns-in_err-narrow-in-Some-clause-kept : goal.returns-in_err-narrow-in-Some-clause-kept
returns-in_err-narrow-in-Some-clause-kept c = pinned_keeps (IsOfVariable c.args.layout.now) c.args.ops.now c.difference.new.ops (held c.args.trail.now) c.pool.ensures.pinned_live c.difference.ensures.stays (news c.laws.ensures c.args.layout.now c.args.ops.now c.args.boxes.now c.args.trail.now c.args.id c.args.v c.requires.ready _ (table c.difference.new.ops.arena) c.difference.ensures.parts) c.narrow.new.ops (held c.narrow.new.self) (ap (λ (s : PoolState). s.arena) c.narrow.ensures.only) c.narrow.ensures.moved

pub unreachable-requires : goal.unreachable-requires
unreachable-requires c = has_side c.laws.ensures c.args.layout.now c.args.ops.now c.args.boxes.now c.args.trail.now c.args.id c.args.v c.requires.ready (ap (λ (ss : List Side). set_of ss c.args.v.0) (sides_read c.args.boxes.now c.args.id.0 c.sides.result.now c.sides.ensures) ∙ sym c.set_of.ensures ∙ c.in-None.is)

pub returns-clause-narrowed : goal.returns-clause-narrowed
returns-clause-narrowed c = narrowed_outside c.laws.ensures c.args.layout.now c.args.ops.now c.args.boxes.now c.args.trail.now c.args.id c.args.v c.requires.ready c.set_at-domain.result c.in-Some.side c.in_ok-to-in-Some.to (subst (λ (ds : List Ref). slice_get ds c.args.v.0 ≡ Some c.set_at-domain.result) c.domains.ensures c.set_at-domain.ensures) (ap (λ (ss : List Side). set_of ss c.args.v.0) (sides_read c.args.boxes.now c.args.id.0 c.sides.result.now c.sides.ensures) ∙ sym c.set_of.ensures ∙ c.in-Some.is) c.difference.new.ops c.pool.ensures.pinned_live c.difference.ensures.stays c.in_ok-to-in-Some.ensures.set c.narrow.new.ops c.narrow.new.self (ap (λ (s : PoolState). s.arena) c.narrow.ensures.only) c.in_ok-narrow-in-Some.ensures.narrowed

pub returns-clause-left : goal.returns-clause-left
returns-clause-left c = pinned_leaves (IsOfVariable c.args.layout.now) c.args.ops.now c.difference.new.ops (held c.args.trail.now) c.pool.ensures.pinned_live c.difference.ensures.stays (news c.laws.ensures c.args.layout.now c.args.ops.now c.args.boxes.now c.args.trail.now c.args.id c.args.v c.requires.ready _ (table c.difference.new.ops.arena) c.difference.ensures.parts) c.narrow.new.ops (held c.narrow.new.self) (ap (λ (s : PoolState). s.arena) c.narrow.ensures.only) c.narrow.ensures.moved

pub returns-clause-kept : goal.returns-clause-kept
returns-clause-kept c = pinned_keeps (IsOfVariable c.args.layout.now) c.args.ops.now c.difference.new.ops (held c.args.trail.now) c.pool.ensures.pinned_live c.difference.ensures.stays (news c.laws.ensures c.args.layout.now c.args.ops.now c.args.boxes.now c.args.trail.now c.args.id c.args.v c.requires.ready _ (table c.difference.new.ops.arena) c.difference.ensures.parts) c.narrow.new.ops (held c.narrow.new.self) (ap (λ (s : PoolState). s.arena) c.narrow.ensures.only) c.narrow.ensures.moved
