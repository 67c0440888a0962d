use Rattle.std.proofs.Common.{arith, true, false}
use Rattle.diagram_arena.specs.Arena.{triple_of}
use Rattle.diagram_view.proofs.Visiting.{falls, visits_node}
use Rattle.diagram_view.proofs.counting.+visit.Goals as goal

pub visit-requires : goal.visit-requires
visit-requires t c =
    let stands = c.node-node.ensures.stands in
    let down = falls _ c.in-Node.id (triple_of c.node-node.result.now) c.args.r stands c.in-Node.is false in
    (omega (arith, down, c.decreases), (stands.live false, c.requires.closed))

pub visit-requires-in-Node : goal.visit-requires-in-Node
visit-requires-in-Node t c =
    let stands = c.node-node.ensures.stands in
    let down = falls _ c.in-Node.id (triple_of c.node-node.result.now) c.args.r stands c.in-Node.is true in
    let first = c.in_ok-visit-in-Node.ensures in
    (omega (arith, down, c.decreases), (stands.live true, first.closed))

pub returns-in_ok-insert-in-Node : goal.returns-in_ok-insert-in-Node
returns-in_ok-insert-in-Node t c =
    visits_node _ c.in-Node.id (triple_of c.node-node.result.now) c.args.r c.args.seen.now.keys c.visit.new.seen.keys c.visit-in-Node.new.seen.keys c.insert.new.self.keys
    c.node-node.ensures.stands c.in-Node.is c.in_ok-visit-in-Node.ensures c.in_ok-visit-in-Node-2.ensures c.in_ok-insert-in-Node.ensures.updates.0
