use Rattle.std.proofs.Common.{ap}
use Rattle.std.specs.Option.{option_map}
use Rattle.diagram_arena.specs.declared.nodes.Node.{Node}
use Rattle.diagram_arena.proofs.States.{live_there, get_at}
use Rattle.diagram_arena.proofs.hash_consing.Arena.tag.Goals as goal

pub index-requires : goal.index-requires
index-requires c = rw c.key.ensures (live_there c.self.inside.nodes.slots c.self.inside.limit c.args.id (rw (← c.self.view_is) at c.requires))

pub returns : goal.returns
returns c =
    let at = get_at c.self.inside.nodes.slots c.self.inside.limit c.args.id c.index.result.now (rw c.key.ensures at c.index.ensures) in
    rw (← c.self.view_is) (ap (option_map (λ (n : Node). n.tag)) at)
