use Rattle.std.proofs.Common.{arith}
use Rattle.diagram_arena.proofs.Kept.{len-state_of, limit-state_of}
use Rattle.diagram_arena.proofs.hash_consing.Arena.len.Goals as goal

pub returns-clause-value : goal.returns-clause-value
returns-clause-value c =
    let long = len-state_of c.self.inside.nodes.slots c.self.inside.limit in
    rw (← c.self.view_is) (omega (arith, long, c.len.ensures))

pub returns-clause-within : goal.returns-clause-within
returns-clause-within c =
    let ns = c.self.inside.nodes.slots in
    rw (← c.self.view_is, len-state_of ns c.self.inside.limit, limit-state_of ns c.self.inside.limit) c.self.invariant.few
