use Rattle.std.proofs.Common.{◌≡◌, ℕ, List, Vec, Global, sym, subst, arith}
use Rattle.choice_machine.specs.Building.{IsLayer}
use Rattle.choice_machine.proofs.building.choice_of.Goals as goal

pub push_ends-requires-clause-layer : goal.push_ends-requires-clause-layer
push_ends-requires-clause-layer g c =
    let states = λ (joint : Vec (ℕ × g.row.M-State.Denot) Global). joint.items in
    let at_end : c.loop-at.at ≡ c.args.places = omega arith in
    subst (λ (n : ℕ). IsLayer g.M.Machine.rules states c.args.machines.now g.M.Machine.occurs c.loop-at.rows.items n c.as_slice-2.result.now) at_end
    (subst (λ (l : List (Vec (ℕ × g.row.M-State.Denot) Global)). IsLayer g.M.Machine.rules states c.args.machines.now g.M.Machine.occurs c.loop-at.rows.items c.loop-at.at l) (sym c.as_slice-2.ensures.keys) c.loop-at.invariant)
