use Rattle.std.proofs.Common.{sym}
use Rattle.diagram_arena.proofs.Kept.{limit-state_of}
use Rattle.diagram_arena.proofs.hash_consing.Arena.limit.Goals as goal

pub returns-clause-value : goal.returns-clause-value
returns-clause-value c = rw (← c.self.view_is) (sym (limit-state_of c.self.inside.nodes.slots c.self.inside.limit))

pub returns-clause-some : goal.returns-clause-some
returns-clause-some c = rw (← c.self.view_is, limit-state_of c.self.inside.nodes.slots c.self.inside.limit) c.self.invariant.some

pub returns-clause-most : goal.returns-clause-most
returns-clause-most c = rw (← c.self.view_is, limit-state_of c.self.inside.nodes.slots c.self.inside.limit) c.self.invariant.most
