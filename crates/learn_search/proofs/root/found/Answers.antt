use Rattle.std.proofs.Common.{[], ◌++◌, sym, ap, ◌∙◌, subst}
use Rattle.diagram_arena.specs.Arena.{table}
use Rattle.node_reclaim.specs.Pool.{PoolState}
use Rattle.pin_lists.specs.Units.{Moves}
use Rattle.pin_lists.proofs.Leaving.{pins_leave, held_beside}
use Rattle.propagators.specs.Compiled.{pinned_by, IsCompiled}
use Rattle.learn_search.specs.Nodes.{IsOfRoot}
use Rattle.learn_search.specs.Way.{IsOnWay}
use Rattle.learn_search.proofs.Keeping.{held_on, found_leaves}
use Rattle.learn_search.proofs.Starting.{start_way, start_live, found_rows}
use Rattle.learn_search.proofs.root.found.Goals as goal

pub hold_all-requires : goal.hold_all-requires
hold_all-requires c = start_live c.args.p.now c.args.layout.now (table c.args.ops.now.arena) c.args.compiled.now c.start.result.now c.requires.compiled c.start.ensures

pub returns-in_err-hold_all-clause-left : goal.returns-in_err-hold_all-clause-left
returns-in_err-hold_all-clause-left c =
    pins_leave (IsOfRoot c.args.p.now) c.args.ops.now c.hold_all.new.ops [] c.hold_all.new.self c.pool.ensures.pinned_live c.pool.ensures.reduced (ap (λ (s : PoolState). s.arena) c.hold_all.ensures.only)
    (subst (λ ds. Moves c.args.ops.now c.hold_all.new.ops ds c.hold_all.new.self) c.requires.empty c.hold_all.ensures.moved)

pub narrow-requires-clause-compiled : goal.narrow-requires-clause-compiled
narrow-requires-clause-compiled c = subst (λ (s : PoolState). IsCompiled c.args.layout.now c.args.p.now (table s.arena) c.args.compiled.now) (sym c.hold_all.ensures.only) c.requires.compiled

pub narrow-requires-clause-way : goal.narrow-requires-clause-way
narrow-requires-clause-way c =
    subst (λ (s : PoolState). IsOnWay c.args.p.now c.args.layout.now (table s.arena) c.hold_all.new.self) (sym c.hold_all.ensures.only)
    (start_way c.args.p.now c.args.layout.now (table c.args.ops.now.arena) c.args.compiled.now c.hold_all.new.self c.requires.compiled
    (c.in_ok-hold_all.ensures.listed ∙ ap (λ ds. ds ++ c.start.result.now) c.requires.empty ∙ c.start.ensures))

pub narrow-requires-clause-held : goal.narrow-requires-clause-held
narrow-requires-clause-held c =
    held_on c.args.ops.now c.hold_all.new.ops (pinned_by c.args.compiled.now) [] c.hold_all.new.self (subst (λ ds. Moves c.args.ops.now c.hold_all.new.ops ds c.hold_all.new.self) c.requires.empty c.hold_all.ensures.moved)
    (held_beside c.args.ops.now (pinned_by c.args.compiled.now) c.requires.held)

pub returns-in_err-narrow-clause-left : goal.returns-in_err-narrow-clause-left
returns-in_err-narrow-clause-left c = found_leaves (IsOfRoot c.args.p.now) c.args.ops.now c.hold_all.new.ops c.narrow.new.ops c.args.domains.now c.hold_all.new.self c.narrow.new.domains c.pool.ensures.pinned_live c.pool.ensures.reduced c.hold_all.ensures.only c.hold_all.ensures.moved c.requires.empty c.narrow.ensures.left

pub returns-then-not-branch-clause-left : goal.returns-then-not-branch-clause-left
returns-then-not-branch-clause-left c = found_leaves (IsOfRoot c.args.p.now) c.args.ops.now c.hold_all.new.ops c.narrow.new.ops c.args.domains.now c.hold_all.new.self c.narrow.new.domains c.pool.ensures.pinned_live c.pool.ensures.reduced c.hold_all.ensures.only c.hold_all.ensures.moved c.requires.empty c.narrow.ensures.left

pub returns-in_err-rows-clause-left : goal.returns-in_err-rows-clause-left
returns-in_err-rows-clause-left c = found_leaves (IsOfRoot c.args.p.now) c.args.ops.now c.hold_all.new.ops c.narrow.new.ops c.args.domains.now c.hold_all.new.self c.narrow.new.domains c.pool.ensures.pinned_live c.pool.ensures.reduced c.hold_all.ensures.only c.hold_all.ensures.moved c.requires.empty c.narrow.ensures.left

pub returns-clause-left : goal.returns-clause-left
returns-clause-left c = found_leaves (IsOfRoot c.args.p.now) c.args.ops.now c.hold_all.new.ops c.narrow.new.ops c.args.domains.now c.hold_all.new.self c.narrow.new.domains c.pool.ensures.pinned_live c.pool.ensures.reduced c.hold_all.ensures.only c.hold_all.ensures.moved c.requires.empty c.narrow.ensures.left

pub returns-clause-means : goal.returns-clause-means
returns-clause-means c =
    found_rows c.args.p.now c.args.layout.now (table c.narrow.new.ops.arena) c.narrow.new.domains c.refs.result.now c.in_ok-narrow.field-0 c.in_ok-rows.field-0.items
    c.obeys_order.ensures c.requires.compiled.kinds c.narrow.ensures.left.reduced c.in_ok-narrow.ensures.fixed c.if-not-branch.false c.refs.ensures c.in_ok-rows.ensures
