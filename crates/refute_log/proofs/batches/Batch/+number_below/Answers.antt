use Rattle.std.proofs.Common.{refl, sym, ap, subst, false, true, arith}
use Rattle.diagram_arena.specs.Table.{Table, IsLive}
use Rattle.diagram_arena.specs.Arena.{triple_of}
use Rattle.refute_log.specs.Naming.{IsOfOneVariable, number_of}
use Rattle.refute_log.proofs.Standing.{one_child, names_zero, names_one, names_of}
use Rattle.refute_log.proofs.Numbering.{numbers_there, numbers_second, numbers_node, falls}
use Rattle.refute_log.proofs.batches.Batch.+number_below.Goals as goal

pub number_below-requires : goal.number_below-requires
number_below-requires t c =
    let stands = c.node_of-node.ensures in
    let down = falls _ _ c.in-Node.id (triple_of c.node_of-node.result) c.args.r stands c.in-Node.is refl false in
    (omega (arith, down, c.decreases), (stands.live false, one_child _ _ c.in-Node.id (triple_of c.node_of-node.result) c.args.r false stands.at c.in-Node.is c.requires.one))

pub number_below-requires-in-Node : goal.number_below-requires-in-Node
number_below-requires-in-Node t c =
    let stands = c.node_of-node.ensures in
    let same = c.number_below.ensures.adds.tags.table in
    let down = falls _ _ c.in-Node.id (triple_of c.node_of-node.result) c.args.r stands c.in-Node.is same true in (
      omega (arith, down, c.decreases),
      (
        subst (λ (u : Table). IsLive u c.node_of-node.result.hi) (sym same) (stands.live true),
        subst (λ (u : Table). IsOfOneVariable c.args.layout.now u c.node_of-node.result.hi) (sym same)
            (one_child _ _ c.in-Node.id (triple_of c.node_of-node.result) c.args.r true stands.at c.in-Node.is c.requires.one),
      ),
    )

pub returns-in-Zero : goal.returns-in-Zero
returns-in-Zero t c = numbers_there _ _ _ c.args.r 0 (ap (number_of c.args.ops.now.arena) c.in-Zero.is) (λ nodes numbered. names_of _ _ nodes _ _ 0 c.in-Zero.is (names_zero _ _ nodes))

pub returns-in-One : goal.returns-in-One
returns-in-One t c = numbers_there _ _ _ c.args.r 1 (ap (number_of c.args.ops.now.arena) c.in-One.is) (λ nodes numbered. names_of _ _ nodes _ _ 1 c.in-One.is (names_one _ _ nodes))

pub returns-in_err-hi-in-Node : goal.returns-in_err-hi-in-Node
returns-in_err-hi-in-Node t c =
    numbers_second _ _ _ _ _ _ _ c.args.r _ _ _ _ c.from_residual-in_err-hi-in-Node.result c.from_residual-in_err-hi-in-Node.ensures.0 c.in_ok-lo-in-Node.ensures c.in_err-hi-in-Node.ensures

pub returns-in_ok-hi-in-Node : goal.returns-in_ok-hi-in-Node
returns-in_ok-hi-in-Node t c =
    numbers_node _ _ _ _ _ _ _ _ _ c.args.r c.in-Node.id (triple_of c.node_of-node.result) _ _ _ c.in-Node.is c.node_of-node.ensures.at
    c.in_ok-lo-in-Node.ensures c.in_ok-hi-in-Node.ensures c.number_node.ensures
