use Rattle.std.proofs.Common.{◌∙◌, ap, subst, not}
use Rattle.std.specs.Prelude.{MatchBool}
use Rattle.diagram_arena.specs.Arena.{ArenaState, table}
use Rattle.node_reclaim.specs.Pool.{PoolState}
use Rattle.diagram_ops.specs.Words.{HasNone, HasSome, product_of}
use Rattle.diagram_ops.proofs.Emptying.{not_some}
use Rattle.diagram_ops.proofs.operations.Ops.product_is_empty.Goals as goal

pub returns : goal.returns
returns c = record {
  empty =
      subst (λ (a : ArenaState). MatchBool (not c.in_ok-some.some) (HasNone (product_of (table a) c.args.f c.args.gs.now)) (HasSome (product_of (table a) c.args.f c.args.gs.now)))
      (c.arena-arena.ensures.arena ∙ ap (λ (p : PoolState). p.arena) c.pool.ensures.pool)
      (not_some _ c.in_ok-some.some (c.in_ok-some.ensures.some _ c.in_ok-all.ensures.product.means));
}
