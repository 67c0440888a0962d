use Rattle.std.proofs.Common.{sym, subst}
use Rattle.diagram_arena.specs.declared.nodes.Ref.TheVariants.{Node}
use Rattle.diagram_arena.specs.Table.{Table, IsLive}
use Rattle.node_reclaim.proofs.Counts.{frame}
use Rattle.node_reclaim.proofs.Reached.{cleared_mark, reclaims, reclaimed_pool}
use Rattle.node_reclaim.proofs.pinning.Pool.reclaim.Goals as goal

pub mark_counted-requires-clause-live : goal.mark_counted-requires-clause-live
mark_counted-requires-clause-live c i some = subst (λ (t : Table). IsLive t (Node i)) (sym c.clear_marks.ensures.table) (c.self.invariant.live i some)

pub mark_counted-requires-clause-unmarked : goal.mark_counted-requires-clause-unmarked
mark_counted-requires-clause-unmarked c =
    cleared_mark c.self.inside.arena c.clear_marks.new.self
    (record { nodes = c.clear_marks.ensures.cleared; table = c.clear_marks.ensures.table; limit = c.clear_marks.ensures.limit })

pub invariant_of-self : goal.invariant_of-self
invariant_of-self c =
    reclaimed_pool (frame c.self.inside) c.self.inside.pins.entries c.clear_marks-2.new.self
    (reclaims (frame c.self.inside) c.self.inside.pins.entries c.clear_marks.new.self c.mark_counted.new.arena c.drop_unmarked.new.self c.clear_marks-2.new.self
    (record { nodes = c.clear_marks.ensures.cleared; table = c.clear_marks.ensures.table; limit = c.clear_marks.ensures.limit })
    c.mark_counted.ensures
    (record { nodes = c.drop_unmarked.ensures.kept; limit = c.drop_unmarked.ensures.limit; reduced = c.drop_unmarked.ensures.reduced; means = c.drop_unmarked.ensures.meaning })
    (record { nodes = c.clear_marks-2.ensures.cleared; table = c.clear_marks-2.ensures.table; limit = c.clear_marks-2.ensures.limit }))

pub returns : goal.returns
returns c =
    rw (← c.self.view_is)
    (reclaims (frame c.self.inside) c.self.inside.pins.entries c.clear_marks.new.self c.mark_counted.new.arena c.drop_unmarked.new.self c.clear_marks-2.new.self
    (record { nodes = c.clear_marks.ensures.cleared; table = c.clear_marks.ensures.table; limit = c.clear_marks.ensures.limit })
    c.mark_counted.ensures
    (record { nodes = c.drop_unmarked.ensures.kept; limit = c.drop_unmarked.ensures.limit; reduced = c.drop_unmarked.ensures.reduced; means = c.drop_unmarked.ensures.meaning })
    (record { nodes = c.clear_marks-2.ensures.cleared; table = c.clear_marks-2.ensures.table; limit = c.clear_marks-2.ensures.limit }))
