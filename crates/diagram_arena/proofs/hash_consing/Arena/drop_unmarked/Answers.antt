use Rattle.std.proofs.Common.{◌≡◌, rules, filter, sym, ◌∙◌}
use Rattle.std.proofs.lemmas.Map.Made.{filter_same_pairs}
use Rattle.diagram_arena.specs.declared.nodes.NodeId.{NodeId}
use Rattle.diagram_arena.specs.declared.nodes.Node.{Node}
use Rattle.diagram_arena.specs.declared.nodes.Triple.{Triple}
use Rattle.diagram_arena.specs.Arena.{MarksReachDown}
use Rattle.diagram_arena.specs.Body.{state_of, marked_at}
use Rattle.diagram_arena.proofs.Marks.{retained, marked, kept_marked, marked_reduced, marked_grows, get_marked}
use Rattle.diagram_arena.proofs.Kept.{limit-state_of}
use Rattle.diagram_arena.proofs.hash_consing.Arena.drop_unmarked.Goals as goal

now : (c : goal.After-retain-2) → c.retain-2.new.self.slots ≡ marked c.self.inside.nodes.slots
now c = retained _ (λ (n : Node). n.mark) (λ n. n) _ (λ key shown keep left next step. search rules) 0 c.self.inside.nodes.slots c.retain-2.new.self.slots c.retain-2.ensures.retained

entries : (c : goal.After-retain-2) → c.retain.new.self.entries ≡ filter (λ (e : Triple × NodeId). marked_at c.self.inside.nodes.slots e.1.0) c.self.inside.ids.entries
entries c = filter_same_pairs _ (λ (e : Triple × NodeId). marked_at c.self.inside.nodes.slots e.1.0) _ (λ k v b w f step. search rules) c.self.inside.ids.entries c.retain.new.self.entries c.retain.ensures.filtered

down : (c : goal.After-retain-2) → MarksReachDown (state_of c.self.inside.nodes.slots c.self.inside.limit)
down c = rw (← c.self.view_is) at c.requires

pub invariant_of-self : goal.invariant_of-self
invariant_of-self c =
    rw (now c, entries c) (kept_marked c.self.inside.nodes.slots c.self.inside.limit c.self.inside.ids.entries c.self.invariant (down c) c.retain.ensures.was_unique)

pub returns-clause-kept : goal.returns-clause-kept
returns-clause-kept c = rw (← c.self.view_is, now c) (get_marked c.self.inside.nodes.slots c.self.inside.limit)

pub returns-clause-reduced : goal.returns-clause-reduced
returns-clause-reduced c = rw (now c) (marked_reduced c.self.inside.nodes.slots c.self.inside.limit c.self.inside.ids.entries c.self.invariant (down c))

pub returns-clause-meaning : goal.returns-clause-meaning
returns-clause-meaning c = rw (← c.self.view_is, now c) (marked_grows c.self.inside.nodes.slots c.self.inside.limit c.self.inside.ids.entries c.self.invariant (down c))

pub returns-clause-limit : goal.returns-clause-limit
returns-clause-limit c =
    rw (← c.self.view_is) (limit-state_of c.retain-2.new.self.slots c.self.inside.limit ∙ sym (limit-state_of c.self.inside.nodes.slots c.self.inside.limit))
