use Rattle.std.proofs.Common.{arith}
use Rattle.diagram_arena.specs.Arena.{table}
use Rattle.diagram_tests.proofs.operations.over_two.Goals as goal

pub node-requires : goal.node-requires
node-requires c =
    let lo = c.leaf.ensures.deep (table c.args.ops.now.arena) in
    let hi = c.leaf-2.ensures.deep (table c.args.ops.now.arena) in
    record {
      lo_live = c.leaf.ensures.live (table c.args.ops.now.arena);
      hi_live = c.leaf-2.ensures.live (table c.args.ops.now.arena);
      lo_deeper = omega (arith, lo);
      hi_deeper = omega (arith, hi);
    }
