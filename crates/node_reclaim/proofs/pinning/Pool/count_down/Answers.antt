use Rattle.std.proofs.Common.{◌≡◌, refl, ◌-◌, ◌<◌, ℕ, Option, Some, None, ap, sym, subst, arith}
use Rattle.diagram_arena.specs.declared.nodes.Ref.TheVariants.{Node}
use Rattle.std.specs.Prelude.{[], ◌∷◌, IsSome, unwrap_or}
use Rattle.node_reclaim.specs.Pool.{PoolState, pins_of, Unpins}
use Rattle.node_reclaim.proofs.Counts.{frame, state, at, pins-state, unpins_put, kept_unpin}
use Rattle.node_reclaim.proofs.pinning.Pool.count_down.Goals as goal

-- a node with a pin has an entry
has_entry : (o : Option ℕ) → 0 < unwrap_or o 0 → IsSome o
has_entry None some = absurd (omega arith)
has_entry (Some n) some = refl

removed : (c : goal.After-remove) → Unpins (state (frame c.self.inside) c.self.inside.pins.entries) (state (frame c.self.inside) c.remove.new.self.entries) (Node c.args.id ∷ [])
removed c =
    let seen : pins_of (state (frame c.self.inside) c.self.inside.pins.entries) c.args.id ≡ pins_of c.args.self.now c.args.id = ap (λ (p : PoolState). pins_of p c.args.id) c.self.view_is in
    unpins_put (frame c.self.inside) c.args.id c.self.inside.pins.entries c.remove.new.self.entries None
    (λ q. c.remove.ensures.updates.0 q) (omega (arith, seen, c.requires, c.pins_of-left.ensures, c.if-left-eq0.true))

pub returns-then-left-eq0 : goal.returns-then-left-eq0
returns-then-left-eq0 c = rw (← c.self.view_is) (removed c)

pub invariant_of-self : goal.invariant_of-self
invariant_of-self c = kept_unpin (frame c.self.inside) c.args.id c.self.inside.pins.entries c.remove.new.self.entries c.self.invariant (removed c)

lowered : (c : goal.After-self-in-Some-1) → Unpins (state (frame c.self.inside) c.self.inside.pins.entries) (state (frame c.self.inside) (c.get_mut.follows.lender (c.pins_of-left.result - 1)).entries) (Node c.args.id ∷ [])
lowered c =
    let here = pins-state (frame c.self.inside) c.self.inside.pins.entries c.args.id in
    let seen : pins_of (state (frame c.self.inside) c.self.inside.pins.entries) c.args.id ≡ pins_of c.args.self.now c.args.id = ap (λ (p : PoolState). pins_of p c.args.id) c.self.view_is in
    let there : IsSome (at c.args.id c.self.inside.pins.entries) = has_entry _ (omega (arith, here, seen, c.requires)) in
    unpins_put (frame c.self.inside) c.args.id c.self.inside.pins.entries _ (Some (c.pins_of-left.result - 1))
    (λ q. ((c.get_mut.follows.holds (c.pins_of-left.result - 1)).3 there).0 q) (omega (arith, seen, c.requires, c.pins_of-left.ensures))

pub returns-in-Some : goal.returns-in-Some
returns-in-Some c = rw (← c.self.view_is) (lowered c)

pub invariant_of-self-in-Some : goal.invariant_of-self-in-Some
invariant_of-self-in-Some c = kept_unpin (frame c.self.inside) c.args.id c.self.inside.pins.entries _ c.self.invariant (lowered c)

pub returns-in_default : goal.returns-in_default
returns-in_default c =
    let here = pins-state (frame c.self.inside) c.self.inside.pins.entries c.args.id in
    let seen : pins_of (state (frame c.self.inside) c.self.inside.pins.entries) c.args.id ≡ pins_of c.args.self.now c.args.id = ap (λ (p : PoolState). pins_of p c.args.id) c.self.view_is in
    let there : IsSome (at c.args.id c.self.inside.pins.entries) = has_entry _ (omega (arith, here, seen, c.requires)) in
    let none = c.in_default.ensures.value in
    let no : IsSome {T = ℕ} None = subst IsSome (sym none) there in
    absurd (cc)
