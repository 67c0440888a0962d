use Rattle.std.proofs.Common.{◌≡◌, ◌^◌, arith}
use Rattle.diagram_arena.specs.declared.nodes.Ref.TheVariants.{Zero}
use Rattle.diagram_arena.specs.Table.{bit_end, depth}
use Rattle.diagram_arena.specs.Arena.{table}
use Rattle.diagram_arena.proofs.Meaning.{bit_end_is, depth-zero}
use Rattle.diagram_tests.proofs.words.above.Goals as goal

pub node-requires : goal.node-requires
node-requires c =
    let zero : depth (table c.args.ops.now.arena) Zero ≡ bit_end = depth-zero (table c.args.ops.now.arena) in
    let end : bit_end ≡ 2 ^ 32 = bit_end_is in
    let small = c.requires.small in
    record { lo_live = tt; hi_live = c.requires.live; lo_deeper = omega (arith, zero, end, small); hi_deeper = c.requires.deep }

pub node-requires-else-value : goal.node-requires-else-value
node-requires-else-value c =
    let zero : depth (table c.args.ops.now.arena) Zero ≡ bit_end = depth-zero (table c.args.ops.now.arena) in
    let end : bit_end ≡ 2 ^ 32 = bit_end_is in
    let small = c.requires.small in
    record { lo_live = c.requires.live; hi_live = tt; lo_deeper = c.requires.deep; hi_deeper = omega (arith, zero, end, small) }
