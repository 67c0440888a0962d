use Rattle.std.proofs.Common.{◌∙◌, sym, ap, subst, arith}
use Rattle.diagram_arena.specs.declared.nodes.Ref.{Ref}
use Rattle.diagram_arena.specs.Arena.{ArenaState, table}
use Rattle.node_reclaim.specs.Pool.{PoolState}
use Rattle.diagram_ops.specs.declared.product.Product.{Product}
use Rattle.diagram_ops.specs.contracts.product.ProductPartialEq.TheImpl.{eq-value as same_product}
use Rattle.std.specs.HashSet.{contains_by}
use Rattle.diagram_ops.specs.Meanings.{first_of, Means, AreEmpty, IsProjectionOf}
use Rattle.diagram_ops.proofs.Meant.{first_more, means_more}
use Rattle.diagram_ops.proofs.Same.{projections_more, known_put}
use Rattle.diagram_ops.proofs.Projecting.{all_or_none_of}
use Rattle.diagram_ops.proofs.operations.Ops.beyond.Goals as goal

pub returns-clause-found : goal.returns-clause-found
returns-clause-found c =
    let same = (c.arena-arena.ensures.arena ∙ ap (λ (p : PoolState). p.arena) c.pool.ensures.pool) in
    let V = c.requires.there.0 in
    let means = c.requires.there.1 in
    let more = c.in_ok-some.ensures.extends in
    let there = means_more (table c.args.self.now.arena) c.args.work.now.pairs.pairs.items c.has_some.new.pairs.pairs.items more c.args.p V means in
    let first = c.first_bit-bit.ensures ∙ ap (λ (a : ArenaState). first_of (table a) c.args.work.now.pairs.pairs.items c.args.p) same in
    let first' = first_more (table c.args.self.now.arena) c.args.work.now.pairs.pairs.items c.has_some.new.pairs.pairs.items more c.args.p V means in
    subst (λ (r : Ref). IsProjectionOf (table c.args.self.now.arena) c.has_some.new.pairs.pairs.items c.args.keep.now c.args.p r) (sym c.all_or_none-r.ensures)
    (all_or_none_of (table c.args.self.now.arena) c.pool.ensures.reduced c.has_some.new.pairs.pairs.items c.args.keep.now c.args.p V c.in_ok-some.some there
    (c.in_ok-some.ensures.some V (subst (λ (a : ArenaState). Means (table a) c.args.work.now.pairs.pairs.items c.args.p V) (sym same) means))
    (λ b on. let near = c.reaches.ensures c.if-reaches.false b on in omega (arith, near, first, first')))

pub returns-clause-work : goal.returns-clause-work
returns-clause-work c =
    let same = (c.arena-arena.ensures.arena ∙ ap (λ (p : PoolState). p.arena) c.pool.ensures.pool) in
    let V = c.requires.there.0 in
    let means = c.requires.there.1 in
    let more = c.in_ok-some.ensures.extends in
    let there = means_more (table c.args.self.now.arena) c.args.work.now.pairs.pairs.items c.has_some.new.pairs.pairs.items more c.args.p V means in
    let first = c.first_bit-bit.ensures ∙ ap (λ (a : ArenaState). first_of (table a) c.args.work.now.pairs.pairs.items c.args.p) same in
    let first' = first_more (table c.args.self.now.arena) c.args.work.now.pairs.pairs.items c.has_some.new.pairs.pairs.items more c.args.p V means in
    let found = subst (λ (r : Ref). IsProjectionOf (table c.args.self.now.arena) c.has_some.new.pairs.pairs.items c.args.keep.now c.args.p r) (sym c.all_or_none-r.ensures)
    (all_or_none_of (table c.args.self.now.arena) c.pool.ensures.reduced c.has_some.new.pairs.pairs.items c.args.keep.now c.args.p V c.in_ok-some.some there
    (c.in_ok-some.ensures.some V (subst (λ (a : ArenaState). Means (table a) c.args.work.now.pairs.pairs.items c.args.p V) (sym same) means))
    (λ b on. let near = c.reaches.ensures c.if-reaches.false b on in omega (arith, near, first, first'))) in
    known_put (table c.args.self.now.arena) c.has_some.new.pairs.pairs.items c.args.keep.now _ c.remember.new.done.entries (λ (q : Product). contains_by (same_product.it q) c.has_some.new.empty) _ c.args.p c.all_or_none-r.result
    (record {
      projections = projections_more (table c.args.self.now.arena) c.args.work.now.pairs.pairs.items c.has_some.new.pairs.pairs.items c.args.keep.now _ c.in_ok-some.ensures.extends c.requires.work.projections;
      without = subst (λ (a : ArenaState). AreEmpty (table a) c.has_some.new.pairs.pairs.items (λ (q : Product). contains_by (same_product.it q) c.has_some.new.empty)) same c.in_ok-some.ensures.known;
      joined = c.requires.work.joined;
    })
    found c.in_ok-remember.ensures
