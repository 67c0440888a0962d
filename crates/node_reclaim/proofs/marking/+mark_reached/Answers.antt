use Rattle.std.proofs.Common.{true, false, refl, subst, sym, ◌∙◌, arith}
use Rattle.diagram_arena.specs.declared.nodes.Ref.TheVariants.{Node}
use Rattle.diagram_arena.specs.Table.{Table, IsLive}
use Rattle.diagram_arena.specs.Arena.{table, triple_of}
use Rattle.diagram_arena.proofs.Meaning.{live_from}
use Rattle.node_reclaim.proofs.Reached.{marks_node, sets_mark, live_stored, falls}
use Rattle.node_reclaim.proofs.marking.+mark_reached.Goals as goal

pub mark_reached-requires : goal.mark_reached-requires
mark_reached-requires t c =
    let stands = c.node-node.ensures.stands in
    let down = falls _ _ c.in-Node.id (triple_of c.node-node.result.now) c.args.r stands c.in-Node.is refl false in
    (omega (arith, down, c.decreases), (stands.live false, c.requires.down))

pub mark_reached-requires-in-Node : goal.mark_reached-requires-in-Node
mark_reached-requires-in-Node t c =
    let stands = c.node-node.ensures.stands in
    let same = c.mark_reached.ensures.changes.table in
    let down = falls _ _ c.in-Node.id (triple_of c.node-node.result.now) c.args.r stands c.in-Node.is same true in
    (omega (arith, down, c.decreases), (subst (λ (u : Table). IsLive u c.node-node.result.now.hi) (sym same) (stands.live true), c.mark_reached.ensures.down))

pub returns-else-node : goal.returns-else-node
returns-else-node t c =
    let stands = c.node-node.ensures.stands in
    let same = c.mark_reached-in-Node.ensures.changes.table ∙ c.mark_reached.ensures.changes.table in
    let there = live_stored c.mark_reached-in-Node.new.arena c.in-Node.id (subst (λ (u : Table). IsLive u (Node c.in-Node.id)) (sym same) (live_from (table c.args.arena.now) c.in-Node.id (triple_of c.node-node.result.now) stands.at)) in
    marks_node c.args.arena.now c.mark_reached.new.arena c.mark_reached-in-Node.new.arena c.set_mark.new.self c.in-Node.id (triple_of c.node-node.result.now) c.args.r
    c.in-Node.is stands.at c.mark_reached.ensures c.mark_reached-in-Node.ensures
    (sets_mark c.mark_reached-in-Node.new.arena c.set_mark.new.self c.in-Node.id there.0 there.1 c.set_mark.ensures.marked c.set_mark.ensures.table)
