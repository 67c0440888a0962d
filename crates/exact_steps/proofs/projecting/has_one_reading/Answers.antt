use Rattle.std.proofs.Common.{ap, ◌∙◌, subst}
use Rattle.diagram_arena.specs.Arena.{ArenaState, table}
use Rattle.node_reclaim.specs.Pool.{PoolState}
use Rattle.diagram_view.specs.Words.{words_over, AreSettled}
use Rattle.exact_steps.proofs.Products.{one_reading}
use Rattle.exact_steps.proofs.projecting.has_one_reading.Goals as goal

pub returns-in-None : goal.returns-in-None
returns-in-None c on =
    one_reading (table c.args.ops.now.arena) c.args.r c.args.bits.now
    (c.words_over_bits.ensures.values (table c.args.ops.now.arena) c.args.r c.args.bits.now c.pool.ensures.reduced c.requires.live c.requires.holds)
    (subst (λ (a : ArenaState). AreSettled (words_over (table a) c.args.r c.args.bits.now)) (c.arena.ensures.arena ∙ ap (λ (s : PoolState). s.arena) c.pool-2.ensures.pool) c.in-None.ensures.none)
