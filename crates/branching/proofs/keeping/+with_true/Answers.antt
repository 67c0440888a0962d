use Rattle.std.proofs.Common.{Err, true, false, refl, ap, arith, ◌<◌, ◌≤◌}
use Rattle.diagram_arena.specs.declared.nodes.Ref.TheVariants.{Node}
use Rattle.diagram_arena.specs.Table.{depth}
use Rattle.diagram_arena.specs.Arena.{table}
use Rattle.diagram_arena.proofs.Meaning.{depth-at, live_from}
use Rattle.diagram_ops.proofs.Steps.{stays_self, stays_then}
use Rattle.diagram_ops.proofs.Splits.{split_one, split_there, split_above}
use Rattle.diagram_ops.proofs.Exits.{passed_on}
use Rattle.branching.proofs.Restricting.{IsAbove, BothKept, falls, keeps_zero, keeps_err, lo_parts, hi_parts, can_join, keeps_both}
use Rattle.branching.proofs.keeping.+with_true.Goals as goal

pub returns-in-Zero : goal.returns-in-Zero
returns-in-Zero t c = keeps_zero c.args.ops.now c.args.f c.args.bit c.pool.ensures.reduced c.in-Zero.is

pub above-requires : goal.above-requires
above-requires t c = (c.args.f, split_one (table c.args.ops.now.arena) c.args.f c.args.bit c.in-One.is c.ranges.bit.fits)

pub with_true-requires : goal.with_true-requires
with_true-requires t c =
    let s = c.args.ops.now in
    let n = c.node_at-node.result in
    let ok = c.pool.ensures.reduced in
    let down = falls s s c.in-Node.id n c.args.f false ok c.node_at-node.ensures c.in-Node.is (stays_self s ok) in
    (omega (arith, down, c.decreases), ok.live c.in-Node.id n false c.node_at-node.ensures)

pub returns-in_err-lo-in-Node : goal.returns-in_err-lo-in-Node
returns-in_err-lo-in-Node t c =
    let s = c.args.ops.now in
    let n = c.node_at-node.result in
    let is : IsAbove s c.in-Node.id n c.args.f c.args.bit = record { reduced = c.pool.ensures.reduced; at = c.node_at-node.ensures; is = c.in-Node.is; below = c.if-node-bit.true } in
    keeps_err s c.with_true.new.ops c.args.f c.args.bit c.from_residual.result c.from_residual.ensures.0 c.with_true.ensures.stays
    (lo_parts s c.with_true.new.ops c.in-Node.id n c.args.f c.args.bit c.with_true.result is c.with_true.ensures)
    (passed_on c.from_residual.result c.in_err-lo-in-Node.field-0.0 _ c.from_residual.ensures.1 (λ e. c.in_err-lo-in-Node.ensures.full (ap Err e)))

pub with_true-requires-then-node-bit : goal.with_true-requires-then-node-bit
with_true-requires-then-node-bit t c =
    let s = c.args.ops.now in
    let n = c.node_at-node.result in
    let ok = c.pool.ensures.reduced in
    let down = falls s c.with_true.new.ops c.in-Node.id n c.args.f true ok c.node_at-node.ensures c.in-Node.is c.with_true.ensures.stays in
    (omega (arith, down, c.decreases), c.with_true.ensures.stays.grows.live n.hi (ok.live c.in-Node.id n true c.node_at-node.ensures))

pub returns-in_err-hi-in-Node : goal.returns-in_err-hi-in-Node
returns-in_err-hi-in-Node t c =
    let s = c.args.ops.now in
    let a = c.with_true.new.ops in
    let b = c.with_true-then-node-bit.new.ops in
    let n = c.node_at-node.result in
    let is : IsAbove s c.in-Node.id n c.args.f c.args.bit = record { reduced = c.pool.ensures.reduced; at = c.node_at-node.ensures; is = c.in-Node.is; below = c.if-node-bit.true } in
    keeps_err s b c.args.f c.args.bit c.from_residual-in_err-hi-in-Node.result c.from_residual-in_err-hi-in-Node.ensures.0
    (stays_then s a b c.with_true.ensures.stays c.with_true-then-node-bit.ensures.stays)
    (hi_parts s a b c.in-Node.id n c.args.f c.args.bit c.with_true.result c.with_true-then-node-bit.result is c.with_true.ensures c.with_true-then-node-bit.ensures)
    (passed_on c.from_residual-in_err-hi-in-Node.result c.in_err-hi-in-Node.field-0.0 _ c.from_residual-in_err-hi-in-Node.ensures.1 (λ e. c.in_err-hi-in-Node.ensures.full (ap Err e)))

pub put-requires : goal.put-requires
put-requires t c =
    let s = c.args.ops.now in
    let a = c.with_true.new.ops in
    let b = c.with_true-then-node-bit.new.ops in
    let n = c.node_at-node.result in
    let is : IsAbove s c.in-Node.id n c.args.f c.args.bit = record { reduced = c.pool.ensures.reduced; at = c.node_at-node.ensures; is = c.in-Node.is; below = c.if-node-bit.true } in
    let both : BothKept s a b n c.args.bit c.in_ok-lo-in-Node.lo c.in_ok-hi-in-Node.hi = record { lo = c.in_ok-lo-in-Node.ensures; hi = c.in_ok-hi-in-Node.ensures } in
    can_join s a b c.in-Node.id n c.args.f c.args.bit c.in_ok-lo-in-Node.lo c.in_ok-hi-in-Node.hi is both

pub returns-in_ok-hi-in-Node : goal.returns-in_ok-hi-in-Node
returns-in_ok-hi-in-Node t c =
    let s = c.args.ops.now in
    let a = c.with_true.new.ops in
    let b = c.with_true-then-node-bit.new.ops in
    let n = c.node_at-node.result in
    let is : IsAbove s c.in-Node.id n c.args.f c.args.bit = record { reduced = c.pool.ensures.reduced; at = c.node_at-node.ensures; is = c.in-Node.is; below = c.if-node-bit.true } in
    let both : BothKept s a b n c.args.bit c.in_ok-lo-in-Node.lo c.in_ok-hi-in-Node.hi = record { lo = c.in_ok-lo-in-Node.ensures; hi = c.in_ok-hi-in-Node.ensures } in
    keeps_both s a b c.put.new.ops c.in-Node.id n c.args.f c.args.bit c.in_ok-lo-in-Node.lo c.in_ok-hi-in-Node.hi c.put.result is both
    c.put.ensures.joins c.put.ensures.stays c.put.ensures.full c.put.ensures.parts

pub above-requires-then-node-bit-2 : goal.above-requires-then-node-bit-2
above-requires-then-node-bit-2 t c =
    let n = c.node_at-node.result in
    (n.lo, split_there (table c.args.ops.now.arena) c.pool.ensures.reduced (Node c.in-Node.id) c.args.bit c.in-Node.id n refl c.node_at-node.ensures c.if-node-bit-2.true)

pub above-requires-else-node-bit-2 : goal.above-requires-else-node-bit-2
above-requires-else-node-bit-2 t c =
    let n = c.node_at-node.result in
    let level = depth-at (table c.args.ops.now.arena) c.in-Node.id n c.node_at-node.ensures in
    let from : c.args.bit ≤ n.bit = c.if-node-bit.false in
    let other = c.if-node-bit-2.false in
    let far : c.args.bit < depth (table c.args.ops.now.arena) (Node c.in-Node.id) = omega (arith, level, from, other) in
    let live = live_from (table c.args.ops.now.arena) c.in-Node.id n c.node_at-node.ensures in
    (Node c.in-Node.id, split_above (table c.args.ops.now.arena) c.pool.ensures.reduced (Node c.in-Node.id) live c.args.bit far)
