use Rattle.std.proofs.Common.{◌++◌, replicate, sym, ◌∙◌, ap, append_assoc, ◌≡◌}
use Rattle.std.specs.List.{flat_map}
use Rattle.std.proofs.lemmas.List.{append-nil}
use Rattle.diagram_arena.specs.declared.nodes.Ref.TheVariants.{Node}
use Rattle.node_reclaim.specs.Pool.{times}
use Rattle.node_reclaim.proofs.Counts.{frame, once, pinned_refs-state, times-once, pins-state}
use Rattle.node_reclaim.proofs.pinning.Pool.pinned.Goals as goal

pub loop-id-init : goal.loop-id-init
loop-id-init c = ap (λ xs. xs ++ flat_map once c.into_iter-id-iterator.result) c.new-refs.ensures.items

pub loop-id-preserved : goal.loop-id-preserved
loop-id-preserved c =
    let here = replicate c.in-Some.count.now (Node c.in-Some.id.now) in
    let rest = flat_map once c.next.new.self in
    ap (λ xs. xs ++ rest) c.in_ok-push_times.ensures
    ∙ append_assoc c.loop-id.refs.items here rest
    ∙ ap (λ xs. c.loop-id.refs.items ++ flat_map once xs) (sym c.in-Some.ensures.steps)
    ∙ c.loop-id.invariant

listed : (c : goal.In-None) → c.loop-id.refs.items ≡ flat_map once c.self.inside.pins.entries
listed c =
    sym (append-nil c.loop-id.refs.items)
    ∙ ap (λ xs. c.loop-id.refs.items ++ flat_map once xs) (sym c.in-None.ensures.steps.0)
    ∙ c.loop-id.invariant
    ∙ ap (flat_map once) c.into_iter-id-iterator.ensures.into_iter_gives.0

pub returns-clause-listed : goal.returns-clause-listed
returns-clause-listed c =
    listed c
    ∙ (rw (← c.self.view_is) (sym (pinned_refs-state (frame c.self.inside) c.self.inside.pins.entries c.into_iter-id-iterator.ensures.into_iter_gives.5)))

pub returns-clause-each : goal.returns-clause-each
returns-clause-each c i =
    ap (times i) (listed c)
    ∙ times-once c.self.inside.pins.entries c.into_iter-id-iterator.ensures.into_iter_gives.5 i
    ∙ (rw (← c.self.view_is) (sym (pins-state (frame c.self.inside) c.self.inside.pins.entries i)))
