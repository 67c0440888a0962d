use Rattle.std.proofs.Common.{◌≡◌, ◌<◌, Bool, true, false, length, sym, subst, ◌∙◌}
use Rattle.diagram_arena.specs.Arena.{table}
use Rattle.box_clauses.proofs.Cutting.{side_at, parts_outside, step_narrowed, step_same, gives_domain}
use Rattle.box_clauses.proofs.stepping.narrow.Goals as goal

differ : (b : Bool) → b ≡ true → b ≡ false → {X : Type 0} → X
differ true on off = cc
differ false on off = cc

pub domain_of-domain-requires : goal.domain_of-domain-requires
domain_of-domain-requires c =
    let s = side_at c.args.layout.now (table c.args.ops.now.arena) c.args.sides.now c.args.at c.side_at-side.result c.requires.sides c.requires.only.within c.side_at-side.ensures in
    subst (λ n. c.side_at-side.result.var.0 < n) (sym c.requires.domains.long) s.known

pub difference-requires-clause-known : goal.difference-requires-clause-known
difference-requires-clause-known c =
    (side_at c.args.layout.now (table c.args.ops.now.arena) c.args.sides.now c.args.at c.side_at-side.result c.requires.sides c.requires.only.within c.side_at-side.ensures).known

pub difference-requires-clause-first : goal.difference-requires-clause-first
difference-requires-clause-first c =
    ((c.set_laws.ensures.domains c.args.layout.now (table c.args.ops.now.arena) c.side_at-side.result.var c.domain_of-domain.result).0
    (c.requires.domains.each c.side_at-side.result.var c.domain_of-domain.result c.domain_of-domain.ensures)).0

pub difference-requires-clause-second : goal.difference-requires-clause-second
difference-requires-clause-second c =
    (side_at c.args.layout.now (table c.args.ops.now.arena) c.args.sides.now c.args.at c.side_at-side.result c.requires.sides c.requires.only.within c.side_at-side.ensures).set

pub returns-in_err-left-clause-parts : goal.returns-in_err-left-clause-parts
returns-in_err-left-clause-parts c =
    parts_outside c.args.layout.now (table c.args.ops.now.arena) (table c.difference.new.ops.arena) c.args.sides.now c.args.domains.now c.args.at c.side_at-side.result c.domain_of-domain.result
    c.requires.sides c.requires.only.within c.side_at-side.ensures c.domain_of-domain.ensures c.difference.ensures.parts c.difference.ensures.reach

pub returns-then-is_one-clause-parts : goal.returns-then-is_one-clause-parts
returns-then-is_one-clause-parts c =
    parts_outside c.args.layout.now (table c.args.ops.now.arena) (table c.difference.new.ops.arena) c.args.sides.now c.args.domains.now c.args.at c.side_at-side.result c.domain_of-domain.result
    c.requires.sides c.requires.only.within c.side_at-side.ensures c.domain_of-domain.ensures c.difference.ensures.parts c.difference.ensures.reach

pub returns-else-is_one-clause-parts : goal.returns-else-is_one-clause-parts
returns-else-is_one-clause-parts c =
    parts_outside c.args.layout.now (table c.args.ops.now.arena) (table c.difference.new.ops.arena) c.args.sides.now c.args.domains.now c.args.at c.side_at-side.result c.domain_of-domain.result
    c.requires.sides c.requires.only.within c.side_at-side.ensures c.domain_of-domain.ensures c.difference.ensures.parts c.difference.ensures.reach

pub returns-then-is_one-clause-step : goal.returns-then-is_one-clause-step
returns-then-is_one-clause-step c =
    step_same c.set_laws.ensures c.args.layout.now (table c.args.ops.now.arena) (table c.difference.new.ops.arena) c.args.sides.now c.args.domains.now c.args.at c.side_at-side.result c.domain_of-domain.result c.in_ok-left.left
    c.obeys_order.ensures c.difference.ensures.stays.reduced c.difference.ensures.stays.grows c.requires.sides c.requires.domains c.requires.only c.side_at-side.ensures c.domain_of-domain.ensures c.in_ok-left.ensures.set
    (c.is_one.ensures.0 c.if-is_one.true)

pub returns-else-is_one-clause-step : goal.returns-else-is_one-clause-step
returns-else-is_one-clause-step c =
    step_narrowed c.set_laws.ensures c.args.layout.now (table c.args.ops.now.arena) (table c.difference.new.ops.arena) c.args.sides.now c.args.domains.now c.args.at c.side_at-side.result c.domain_of-domain.result c.in_ok-left.left
    c.obeys_order.ensures c.difference.ensures.stays.reduced c.difference.ensures.stays.grows c.requires.sides c.requires.domains c.requires.only c.side_at-side.ensures c.domain_of-domain.ensures c.in_ok-left.ensures.set
    (λ e. differ c.is_one.result (c.is_one.ensures.1 e) c.if-is_one.false)

pub returns-else-is_one-clause-domain : goal.returns-else-is_one-clause-domain
returns-else-is_one-clause-domain c =
    gives_domain c.set_laws.ensures c.args.layout.now (table c.args.ops.now.arena) (table c.difference.new.ops.arena) c.args.sides.now c.args.domains.now c.args.at c.side_at-side.result c.domain_of-domain.result c.in_ok-left.left
    c.obeys_order.ensures c.difference.ensures.stays.reduced c.difference.ensures.stays.grows c.requires.sides c.requires.domains c.requires.only c.side_at-side.ensures c.domain_of-domain.ensures c.in_ok-left.ensures.set
    (λ e. differ c.is_one.result (c.is_one.ensures.1 e) c.if-is_one.false)
