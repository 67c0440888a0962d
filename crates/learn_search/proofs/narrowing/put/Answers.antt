use Rattle.std.proofs.Common.{◌≡◌, ◌<◌, length, slice_index_or, sym, subst, arith}
use Rattle.set_meaning.specs.declared.problems.VarId.{VarId}
use Rattle.diagram_arena.specs.declared.nodes.Ref.{Ref}
use Rattle.diagram_arena.specs.declared.nodes.Ref.TheVariants.{Zero}
use Rattle.diagram_arena.specs.Table.{IsLive}
use Rattle.diagram_arena.specs.Arena.{table}
use Rattle.node_reclaim.specs.Pool.{PoolState}
use Rattle.pin_lists.proofs.Leaving.{held_after}
use Rattle.learn_search.proofs.narrowing.put.Goals as goal

pub replace-requires-clause-at : goal.replace-requires-clause-at
replace-requires-clause-at c =
    let d : VarId × Ref = (record { 0 = 0 }, Zero) in
    let known : (slice_index_or c.args.kept.now c.loop-v.v-index d).0.0 < length c.args.domains.now = c.requires.known c.loop-v.v-index d c.loop-v-test.true in
    let long : length c.loop-v.domains ≡ length c.args.domains.now = c.loop-v.invariant.long in
    omega (arith, known, long)

pub replace-requires-clause-live : goal.replace-requires-clause-live
replace-requires-clause-live c =
    let d : VarId × Ref = (record { 0 = 0 }, Zero) in
    subst (λ (s : PoolState). IsLive (table s.arena) (slice_index_or c.args.kept.now c.loop-v.v-index d).1) (sym c.loop-v.invariant.only) (c.requires.live c.loop-v.v-index d c.loop-v-test.true)

pub replace-requires-clause-held : goal.replace-requires-clause-held
replace-requires-clause-held c = held_after c.args.ops.now c.loop-v.ops c.args.domains.now c.loop-v.domains c.loop-v.invariant.moved c.requires.held
