use Rattle.std.proofs.Common.{◌≡◌, true, false, refl, sym, ◌∙◌, subst, inl, inr}
use Rattle.diagram_arena.specs.Reach.{among}
use Rattle.diagram_arena.specs.Arena.{table}
use Rattle.node_reclaim.specs.Growth.{words_of}
use Rattle.diagram_ops.specs.Words.{product_of, IsProjection}
use Rattle.exact_steps.proofs.Products.{domain_reaches, domain_depends, one_projection}
use Rattle.exact_steps.proofs.projecting.look_at.Goals as goal

pub has_one_reading-requires-clause-holds : goal.has_one_reading-requires-clause-holds
has_one_reading-requires-clause-holds c =
    domain_reaches c.args.layout.now c.args.v (table c.args.ops.now.arena) c.args.domain c.bits_of-bits.result.now c.obeys_order.ensures c.pool.ensures.reduced c.requires.domain c.bits_of-bits.ensures.bits

pub returns-then-has_one_reading-clause-looked : goal.returns-then-has_one_reading-clause-looked
returns-then-has_one_reading-clause-looked c =
    inl (
      refl,
      subst (λ bs. IsProjection (among bs) (product_of (table c.args.ops.now.arena) c.args.constraint c.args.own.now) (words_of c.args.ops.now c.args.domain)) c.bits_of-bits.ensures.bits
          (one_projection c.bits_of-bits.result.now (product_of (table c.args.ops.now.arena) c.args.constraint c.args.own.now) (words_of c.args.ops.now c.args.domain) c.requires.some c.requires.within
          (domain_depends c.args.layout.now c.args.v (table c.args.ops.now.arena) c.args.domain c.bits_of-bits.result.now c.obeys_order.ensures c.requires.domain c.bits_of-bits.ensures.bits) (c.has_one_reading.ensures c.if-has_one_reading.true)),
    )

pub returns-clause-looked : goal.returns-clause-looked
returns-clause-looked c =
    inr (
      c.in_ok-extending.extending,
      c.in_ok-append.ensures,
      c.in_ok-extending.ensures.live,
      subst (λ bs. IsProjection (among bs) (product_of (table c.args.ops.now.arena) c.args.constraint c.args.own.now) (words_of c.project_product.new.self c.in_ok-extending.extending)) c.bits_of-bits.ensures.bits
          c.in_ok-extending.ensures.words,
      (λ e. let no : false ≡ true = sym c.if-is_same.false ∙ c.is_same.ensures.1 e in cc),
    )
