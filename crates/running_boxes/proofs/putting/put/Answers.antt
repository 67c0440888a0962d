use Rattle.std.proofs.Common.{◌≡◌, ◌<◌, length, slice_index_or, sym, subst, arith}
use Rattle.diagram_arena.specs.declared.nodes.Ref.TheVariants.{Zero}
use Rattle.diagram_arena.specs.Table.{IsLive}
use Rattle.diagram_arena.specs.Arena.{table}
use Rattle.node_reclaim.specs.Pool.{PoolState}
use Rattle.pin_lists.proofs.Leaving.{held_after}
use Rattle.box_clauses.specs.declared.sides.Side.{Side}
use Rattle.running_boxes.proofs.putting.put.Goals as goal

pub replace-requires-clause-at : goal.replace-requires-clause-at
replace-requires-clause-at c =
    let d : Side = record { var = record { 0 = 0 }; set = Zero } in
    let known : (slice_index_or c.args.sides.now c.loop-side.side-index d).var.0 < length c.args.running.now = c.requires.known c.loop-side.side-index d c.loop-side-test.true in
    let long : length c.loop-side.running ≡ length c.args.running.now = c.loop-side.invariant.long in
    omega (arith, known, long)

pub replace-requires-clause-live : goal.replace-requires-clause-live
replace-requires-clause-live c =
    let d : Side = record { var = record { 0 = 0 }; set = Zero } in
    subst (λ (s : PoolState). IsLive (table s.arena) (slice_index_or c.args.sides.now c.loop-side.side-index d).set) (sym c.loop-side.invariant.only) (c.requires.live c.loop-side.side-index d c.loop-side-test.true)

pub replace-requires-clause-held : goal.replace-requires-clause-held
replace-requires-clause-held c = held_after c.args.ops.now c.loop-side.ops c.args.running.now c.loop-side.running c.loop-side.invariant.moved c.requires.held
