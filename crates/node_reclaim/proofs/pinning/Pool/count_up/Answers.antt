use Rattle.std.proofs.Common.{◌≡◌, ◌+◌, Some, ap, arith}
use Rattle.diagram_arena.specs.declared.nodes.Ref.TheVariants.{Node}
use Rattle.node_reclaim.specs.Pool.{PoolState, pins_of, Pins}
use Rattle.node_reclaim.proofs.Counts.{frame, state, pins_put, kept_pin}
use Rattle.node_reclaim.proofs.pinning.Pool.count_up.Goals as goal
use Rattle.std.specs.Prelude.{[], ◌∷◌}

raised : (c : goal.In_ok-insert-in-Some) → Pins (state (frame c.self.inside) c.self.inside.pins.entries) (state (frame c.self.inside) c.insert.new.self.entries) (Node c.args.id ∷ [])
raised c =
    let seen : pins_of (state (frame c.self.inside) c.self.inside.pins.entries) c.args.id ≡ pins_of c.args.self.now c.args.id = ap (λ (p : PoolState). pins_of p c.args.id) c.self.view_is in
    let count : c.in-Some.count ≡ pins_of c.args.self.now c.args.id + 1 = omega (arith, c.in-Some.ensures.1, c.pins_of.ensures) in
    pins_put (frame c.self.inside) c.args.id c.self.inside.pins.entries c.insert.new.self.entries (Some c.in-Some.count)
    (λ q. c.in_ok-insert-in-Some.ensures.updates.0 q) (omega (arith, seen, count))

pub returns-in_ok-insert-in-Some-clause-ok : goal.returns-in_ok-insert-in-Some-clause-ok
returns-in_ok-insert-in-Some-clause-ok c = rw (← c.self.view_is) (raised c)

pub invariant_of-self-in-Some : goal.invariant_of-self-in-Some
invariant_of-self-in-Some c =
    kept_pin (frame c.self.inside) c.args.id c.self.inside.pins.entries c.insert.new.self.entries c.self.invariant (raised c) (rw (← c.self.view_is) at c.requires)
