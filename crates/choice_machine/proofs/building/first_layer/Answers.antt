use Rattle.std.proofs.Common.{◌≡◌, ℕ, List, [], Vec, Global, sym, subst}
use Rattle.choice_machine.specs.Building.{IsLayer}
use Rattle.choice_machine.proofs.Keys.{same_joint, first_key}
use Rattle.choice_machine.proofs.Layers.{layer_first}
use Rattle.choice_machine.proofs.building.first_layer.Goals as goal

pub returns : goal.returns
returns g c =
    let states = λ (joint : Vec (ℕ × g.row.M-State.Denot) Global). joint.items in
    subst (λ (l : List (Vec (ℕ × g.row.M-State.Denot) Global)). IsLayer g.M.Machine.rules states c.args.machines.now g.M.Machine.occurs [] 0 l)
    (sym (first_key (same_joint g.M.State.PartialEq.eq) c.new-layer.result.keys c.insert_full.new.self.keys c.in_ok-first_joint.field-0 c.new-layer.ensures.empty c.in_ok-insert_full.ensures.keys))
    (layer_first g.M.Machine.rules states c.args.machines.now g.M.Machine.occurs c.in_ok-first_joint.field-0 c.in_ok-first_joint.ensures.occur c.in_ok-first_joint.ensures.starts)
