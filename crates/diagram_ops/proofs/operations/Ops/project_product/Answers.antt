use Rattle.std.proofs.Common.{subst}
use Rattle.diagram_arena.specs.Table.{Words, has}
use Rattle.diagram_arena.specs.Arena.{table}
use Rattle.diagram_ops.specs.Words.{Lies, product_of}
use Rattle.diagram_ops.specs.Meanings.{first_of}
use Rattle.diagram_ops.proofs.Meant.{means_once}
use Rattle.diagram_ops.proofs.Same.{known_more}
use Rattle.diagram_ops.proofs.Projecting.{words_asks, words_reach, product_depends, deep_as_all}
use Rattle.diagram_ops.proofs.operations.Ops.project_product.Goals as goal

pub project_below-requires-clause-bounded : goal.project_below-requires-clause-bounded
project_below-requires-clause-bounded c V means =
    subst (λ (X : Words). Lies X (has (table c.args.self.now.arena) c.args.bound))
    (means_once (table c.args.self.now.arena) c.taken_together.new.pairs.pairs.items c.in_ok-all.all (product_of (table c.args.self.now.arena) c.args.f c.args.gs.now) V c.in_ok-all.ensures.product.means means) c.requires.bounded

pub project_below-requires-clause-work : goal.project_below-requires-clause-work
project_below-requires-clause-work c = known_more _ _ c.taken_together.new.pairs.pairs.items c.args.keep.now _ _ _ c.in_ok-all.ensures.extends (c.new-work.ensures (table c.args.self.now.arena) c.args.keep.now)

pub returns-clause-deep : goal.returns-clause-deep
returns-clause-deep c =
    deep_as_all (table c.args.self.now.arena) (table c.project_below.new.self.arena) c.args.f c.args.gs.now (first_of (table c.args.self.now.arena) c.taken_together.new.pairs.pairs.items c.in_ok-all.all) c.project_below.result
    c.in_ok-all.ensures.product.deep (c.project_below.ensures.left (product_of (table c.args.self.now.arena) c.args.f c.args.gs.now) c.in_ok-all.ensures.product.means).deep

pub returns-clause-asks : goal.returns-clause-asks
returns-clause-asks c bits reach reach_all =
    words_asks c.args.self.now c.project_below.new.self c.args.keep.now _ _ c.project_below.result (c.project_below.ensures.left (product_of (table c.args.self.now.arena) c.args.f c.args.gs.now) c.in_ok-all.ensures.product.means) bits
    (product_depends _ c.pool.ensures.reduced c.args.f c.args.gs.now c.requires.f_live c.requires.gs_live bits reach reach_all)

pub returns-clause-reach : goal.returns-clause-reach
returns-clause-reach c bits reach reach_all =
    words_reach c.args.self.now c.project_below.new.self c.args.keep.now _ _ c.project_below.result (c.project_below.ensures.left (product_of (table c.args.self.now.arena) c.args.f c.args.gs.now) c.in_ok-all.ensures.product.means) bits
    (product_depends _ c.pool.ensures.reduced c.args.f c.args.gs.now c.requires.f_live c.requires.gs_live bits reach reach_all)
