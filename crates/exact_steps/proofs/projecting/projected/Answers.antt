use Rattle.std.proofs.Common.{◌≡◌, sym, ap, subst}
use Rattle.std.specs.List.{All}
use Rattle.std.proofs.lemmas.List.{get_or_default}
use Rattle.std.proofs.lemmas.List.Elements.{All-contains}
use Rattle.diagram_arena.specs.Table.{Words, IsLive}
use Rattle.diagram_arena.specs.Arena.{table}
use Rattle.diagram_ops.specs.Words.{product_of, HasSome}
use Rattle.exact_steps.specs.Domains.{variable}
use Rattle.exact_steps.specs.Work.{IsProjecting}
use Rattle.exact_steps.proofs.Wanted.{domains_grow}
use Rattle.exact_steps.proofs.Products.{live_domains, own_has, product_grows, product_lies}
use Rattle.exact_steps.proofs.Changes.{first_projecting, projecting_leaves, next_projecting}
use Rattle.exact_steps.proofs.projecting.projected.Goals as goal

pub loop-v-init : goal.loop-v-init
loop-v-init c =
    subst (λ kept. IsProjecting c.args.layout.now c.args.scope.now (product_of (table c.args.ops.now.arena) c.args.constraint c.args.own.now) c.args.domains.now c.args.ops.now 0 c.args.ops.now kept) (sym c.new-kept.ensures.items)
    (first_projecting c.args.layout.now c.args.scope.now (product_of (table c.args.ops.now.arena) c.args.constraint c.args.own.now) c.args.domains.now c.args.ops.now c.pool.ensures.reduced)

pub look_at-requires-clause-own : goal.look_at-requires-clause-own
look_at-requires-clause-own c =
    live_domains c.args.layout.now c.args.domains.now c.args.own.now c.args.scope.now (table c.loop-v.ops.arena)
    (domains_grow c.args.layout.now (table c.args.ops.now.arena) (table c.loop-v.ops.arena) c.args.domains.now c.loop-v.invariant.stays.grows c.requires.domains) c.requires.own

pub look_at-requires-clause-domain : goal.look_at-requires-clause-domain
look_at-requires-clause-domain c =
    (domains_grow c.args.layout.now (table c.args.ops.now.arena) (table c.loop-v.ops.arena) c.args.domains.now c.loop-v.invariant.stays.grows c.requires.domains).each _ c.domain_of-domain.result c.domain_of-domain.ensures

pub look_at-requires-clause-within : goal.look_at-requires-clause-within
look_at-requires-clause-within c =
    product_lies (table c.loop-v.ops.arena) c.args.constraint c.args.own.now c.domain_of-domain.result
    (own_has c.args.domains.now c.args.own.now c.args.scope.now c.loop-v.v-index _ c.domain_of-domain.result c.loop-v-test.true (get_or_default c.args.scope.now c.loop-v.v-index _ _ c.loop-v-test.true) c.domain_of-domain.ensures c.requires.own)

pub look_at-requires-clause-some : goal.look_at-requires-clause-some
look_at-requires-clause-some c =
    subst HasSome (sym (product_grows (table c.args.ops.now.arena) (table c.loop-v.ops.arena) c.args.constraint c.args.own.now c.loop-v.invariant.stays.grows c.requires.constraint
    (live_domains c.args.layout.now c.args.domains.now c.args.own.now c.args.scope.now (table c.args.ops.now.arena) c.requires.domains c.requires.own))) c.requires.some

pub returns-in_err-look_at-clause-parts : goal.returns-in_err-look_at-clause-parts
returns-in_err-look_at-clause-parts c =
    (projecting_leaves c.args.layout.now c.args.scope.now (product_of (table c.args.ops.now.arena) c.args.constraint c.args.own.now) (product_of (table c.loop-v.ops.arena) c.args.constraint c.args.own.now) c.args.domains.now c.args.ops.now
    c.loop-v.ops c.look_at.new.ops c.loop-v.v-index c.loop-v.kept.items _ c.loop-v-test.true (get_or_default c.args.scope.now c.loop-v.v-index _ _ c.loop-v-test.true)
    (product_grows (table c.args.ops.now.arena) (table c.loop-v.ops.arena) c.args.constraint c.args.own.now c.loop-v.invariant.stays.grows c.requires.constraint
    (live_domains c.args.layout.now c.args.domains.now c.args.own.now c.args.scope.now (table c.args.ops.now.arena) c.requires.domains c.requires.own))
    c.loop-v.invariant c.look_at.ensures.stays c.look_at.ensures.parts).1

pub loop-v-preserved : goal.loop-v-preserved
loop-v-preserved c =
    next_projecting c.args.layout.now c.args.scope.now (product_of (table c.args.ops.now.arena) c.args.constraint c.args.own.now) (product_of (table c.loop-v.ops.arena) c.args.constraint c.args.own.now) c.args.domains.now c.args.ops.now
    c.loop-v.ops c.look_at.new.ops c.loop-v.v-index c.loop-v.kept.items c.look_at.new.kept.items _ c.domain_of-domain.result c.requires.ascending (λ n d e. (c.requires.domains.each (variable n) d e).diagram.live)
    c.loop-v-test.true (get_or_default c.args.scope.now c.loop-v.v-index _ _ c.loop-v-test.true) c.domain_of-domain.ensures
    (product_grows (table c.args.ops.now.arena) (table c.loop-v.ops.arena) c.args.constraint c.args.own.now c.loop-v.invariant.stays.grows c.requires.constraint
    (live_domains c.args.layout.now c.args.domains.now c.args.own.now c.args.scope.now (table c.args.ops.now.arena) c.requires.domains c.requires.own))
    c.loop-v.invariant c.look_at.ensures.stays c.look_at.ensures.parts c.in_ok-look_at.ensures.looked
