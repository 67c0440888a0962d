use Rattle.std.proofs.Common.{refl}
use Rattle.diagram_arena.specs.declared.nodes.Node.{Node}
use Rattle.diagram_arena.proofs.States.{live_there, kept_set, changes_set, changes_table, len_set}
use Rattle.diagram_arena.proofs.hash_consing.Arena.set_tag.Goals as goal

pub index_mut-tagged-requires : goal.index_mut-tagged-requires
index_mut-tagged-requires c = rw c.key.ensures (live_there c.self.inside.nodes.slots c.self.inside.limit c.args.id (rw (← c.self.view_is) at c.requires))

pub invariant_of-self : goal.invariant_of-self
invariant_of-self c =
    kept_set c.self.inside.nodes c.self.inside.limit c.self.inside.ids.entries c.args.id c.key.result c.index_mut-tagged.result.now (λ (n : Node). record n { tag = c.args.tag })
    c.key.ensures c.self.invariant c.index_mut-tagged.ensures.value (λ n. refl)

pub returns-clause-tagged : goal.returns-clause-tagged
returns-clause-tagged c =
    rw (← c.self.view_is) (changes_set c.self.inside.nodes c.self.inside.limit c.args.id c.key.result c.index_mut-tagged.result.now (λ (n : Node). record n { tag = c.args.tag })
    c.key.ensures c.index_mut-tagged.ensures.value)

pub returns-clause-table : goal.returns-clause-table
returns-clause-table c =
    let f = λ (n : Node). record n { tag = c.args.tag } in
    rw (← c.self.view_is) (changes_table _ _ c.args.id f (changes_set c.self.inside.nodes c.self.inside.limit c.args.id c.key.result c.index_mut-tagged.result.now f
    c.key.ensures c.index_mut-tagged.ensures.value) (λ n. refl))

pub returns-clause-count : goal.returns-clause-count
returns-clause-count c = rw (← c.self.view_is) (len_set c.self.inside.nodes c.self.inside.limit c.key.result c.index_mut-tagged.result.now _ c.index_mut-tagged.ensures.value)
