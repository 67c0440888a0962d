use Rattle.diagram_arena.specs.Body.{state_of}
use Rattle.diagram_arena.specs.Arena.{triple_of}
use Rattle.diagram_arena.proofs.Growth.{stands}
use Rattle.diagram_arena.proofs.States.{live_there, get_at, table_from_get}
use Rattle.diagram_arena.proofs.hash_consing.Arena.node.Goals as goal

pub index-requires : goal.index-requires
index-requires c = rw c.key.ensures (live_there c.self.inside.nodes.slots c.self.inside.limit c.args.id (rw (← c.self.view_is) at c.requires))

pub returns-clause-found : goal.returns-clause-found
returns-clause-found c =
    rw (← c.self.view_is) (get_at c.self.inside.nodes.slots c.self.inside.limit c.args.id c.index.result.now (rw c.key.ensures at c.index.ensures))

pub returns-clause-stands : goal.returns-clause-stands
returns-clause-stands c =
    let s = state_of c.self.inside.nodes.slots c.self.inside.limit in
    let at = get_at c.self.inside.nodes.slots c.self.inside.limit c.args.id c.index.result.now (rw c.key.ensures at c.index.ensures) in
    rw (← c.self.view_is) (stands _ c.self.invariant.reduced c.args.id (triple_of c.index.result.now) (table_from_get s c.args.id c.index.result.now at))
