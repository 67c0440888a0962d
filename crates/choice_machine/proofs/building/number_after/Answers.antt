use Rattle.std.proofs.Common.{◌≡◌, ℕ, ◌+◌, List, Vec, Global, refl, sym, subst}
use Rattle.std.specs.Prelude.{All, IfOk}
use Rattle.std.proofs.lemmas.Result.{IfOk-weaker}
use Rattle.choice_machine.specs.Building.{AreStatesAt, IsNext, HasNext, LeadsTo}
use Rattle.choice_machine.proofs.Outcomes.{on_ok_any}
use Rattle.choice_machine.proofs.Keys.{same_joint, same_joint_true, keys_grow, keys_each}
use Rattle.choice_machine.proofs.building.number_after.Goals as goal

pub returns-clause-occur : goal.returns-clause-occur
returns-clause-occur g c =
    on_ok_any c.number_from.result _
    (keys_each (same_joint g.M.State.PartialEq.eq) (λ (joint : Vec (ℕ × g.row.M-State.Denot) Global). AreStatesAt g.M.Machine.occurs c.args.machines.now (c.args.at + 1) joint.items)
    c.args.layer.now.keys c.insert_full.new.self.keys c.in_ok-next.next c.in_ok-number.ensures.keys c.requires.occur c.in_ok-next.ensures.occur)

pub returns-clause-next : goal.returns-clause-next
returns-clause-next g c =
    let stored = c.in_ok-number.ensures.stored in
    let same = same_joint_true g.M.State.PartialEq.eq g.met.M.Machine.identical c.in_ok-next.next stored.0 stored.2 in
    IfOk-weaker c.number_from.result (λ n. n ≡ c.args.base + c.in_ok-number.number)
    (LeadsTo g.M.Machine.rules (λ (joint : Vec (ℕ × g.row.M-State.Denot) Global). joint.items) c.args.machines.now c.args.at c.args.value c.args.base c.args.joint.now c.insert_full.new.self.keys)
    (λ n is. (
      c.in_ok-number.number,
      is,
      (
        stored.0,
        stored.1,
        subst (λ (l : List (ℕ × g.row.M-State.Denot)). IsNext g.M.Machine.rules c.args.machines.now c.args.at c.args.value c.args.joint.now l) same c.in_ok-next.ensures.next,
      ),
    )) c.number_from.ensures

pub returns-clause-grows : goal.returns-clause-grows
returns-clause-grows g c =
    on_ok_any c.number_from.result _ (keys_grow (same_joint g.M.State.PartialEq.eq) c.args.layer.now.keys c.insert_full.new.self.keys c.in_ok-next.next c.in_ok-number.ensures.keys)
