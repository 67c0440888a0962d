use Rattle.diagram_arena.proofs.States.{live_there, there_live}
use Rattle.diagram_arena.proofs.hash_consing.Arena.is_live.Goals as goal

pub returns-in-Node : goal.returns-in-Node
returns-in-Node c =
    let ns = c.self.inside.nodes.slots in
    let i = c.in-Node.id in
    rw (← c.self.view_is, c.in-Node.is) (
      (λ e. there_live ns c.self.inside.limit i (rw c.key.ensures at (c.contains.ensures.0 e))),
      (λ live. c.contains.ensures.1 (rw c.key.ensures (live_there ns c.self.inside.limit i live))),
    )
