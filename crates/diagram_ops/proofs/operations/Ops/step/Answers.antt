use Rattle.std.proofs.Common.{◌∙◌, ap, subst}
use Rattle.diagram_arena.specs.Table.{Words, has}
use Rattle.diagram_arena.specs.Arena.{ArenaState, table}
use Rattle.node_reclaim.specs.Pool.{PoolState}
use Rattle.diagram_ops.specs.Words.{Lies}
use Rattle.diagram_ops.specs.Meanings.{Means, IsThere}
use Rattle.diagram_ops.specs.Work.{IsStepOf}
use Rattle.diagram_ops.proofs.Projecting.{step_of}
use Rattle.diagram_ops.proofs.operations.Ops.step.Goals as goal

pub returns-clause-step : goal.returns-clause-step
returns-clause-step c =
    subst (λ (a : ArenaState). IsThere (table a) c.args.pairs.now.pairs.items c.args.p
    → ((V : Words) → Means (table a) c.args.pairs.now.pairs.items c.args.p V → Lies V (has (table a) c.args.bound))
    → IsStepOf (table a) c.args.pairs.now.pairs.items c.split.new.self.pairs.items c.args.p
    (record { bit = c.first_bit-bit.result; lo = c.in_ok-lo.lo; hi = c.in_ok-lo.hi; bound_lo = c.bounds-bound_lo.result.0; bound_hi = c.bounds-bound_lo.result.1 }))
    (c.arena-arena.ensures.arena ∙ ap (λ (p : PoolState). p.arena) c.pool.ensures.pool)
    (λ there bounded. step_of (table c.arena-arena.result.now) c.args.pairs.now.pairs.items c.split.new.self.pairs.items c.args.p c.first_bit-bit.result c.in_ok-lo.lo c.in_ok-lo.hi c.args.bound
    c.bounds-bound_lo.result.0 c.bounds-bound_lo.result.1 c.first_bit-bit.ensures c.in_ok-lo.ensures.sides there c.bounds-bound_lo.ensures bounded)
    c.requires.there c.requires.bounded
