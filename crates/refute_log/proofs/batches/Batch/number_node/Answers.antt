use Rattle.diagram_arena.specs.Arena.{triple_of}
use Rattle.refute_log.specs.Naming.{bits_of}
use Rattle.refute_log.proofs.Standing.{own_bit, place_within, place_position}
use Rattle.refute_log.proofs.Numbering.{builds_none, builds_node}
use Rattle.refute_log.proofs.batches.Batch.number_node.Goals as goal

pub place-position-requires : goal.place-position-requires
place-position-requires c =
    let one = c.requires.one in
    place_within c.args.layout.now one.variable c.node_of-node.result.bit
    (own_bit _ (bits_of c.args.layout.now one.variable) c.args.id (triple_of c.node_of-node.result) c.node_of-node.ensures.at one.reaches)

pub returns-in_err-number : goal.returns-in_err-number
returns-in_err-number c =
    builds_none c.args.layout.now c.args.ops.now c.args.self.now c.push.new.self c.args.id c.args.lo c.args.hi c.from_residual.result c.from_residual.ensures.0 c.in_err-number.ensures.err

pub returns : goal.returns
returns c =
    builds_node c.args.layout.now c.args.ops.now c.set_tag.new.self c.args.self.now c.push.new.self c.args.id (triple_of c.node_of-node.result) c.args.lo c.args.hi c.in_ok-number.number _
    c.obeys_order.ensures c.node_of-node.ensures c.requires.one (place_position c.args.layout.now c.node_of-node.result.bit c.place-position.result.0 c.place-position.result.1 c.place-position.ensures.place)
    c.in_ok-number.ensures.number c.in_ok-number.ensures.next c.in_ok-number.ensures.text c.in_ok-number.ensures.spelled
    c.set_tag.ensures.only c.set_tag.ensures.tagged c.set_tag.ensures.table
