use Rattle.std.proofs.Common.{◌≡◌, ℕ, ◌+◌, true, false, List, Vec, Global, length, take, sym, subst, arith}
use Rattle.std.specs.List.{AllZip}
use Rattle.std.proofs.lemmas.List.{take_all}
use Rattle.choice_machine.specs.declared.rows.Row.{Row}
use Rattle.choice_machine.specs.Building.{AreStatesAt, LeadsTo, IsRowOf}
use Rattle.choice_machine.proofs.Lists.{all_at, take_next}
use Rattle.choice_machine.proofs.Layers.{rows_more, rows_weaker, row_grows, leads_grow, layer_next}
use Rattle.choice_machine.proofs.building.next_layer.Goals as goal

pub number_after-requires-clause-from : goal.number_after-requires-clause-from
number_after-requires-clause-from g c =
    subst (λ (l : List (ℕ × g.row.M-State.Denot)). AreStatesAt g.M.Machine.occurs c.args.machines.now c.args.at l) (sym c.as_slice.ensures.value)
    (all_at (λ (joint : Vec (ℕ × g.row.M-State.Denot) Global). AreStatesAt g.M.Machine.occurs c.args.machines.now c.args.at joint.items) c.args.joints.now c.loop-joint.joint-index c.joint-item.result
    c.loop-joint-test.true c.joint-item.is c.requires.layer.occur)

pub number_after-requires-in-loop-joint-clause-from :
    goal.number_after-requires-in-loop-joint-clause-from
number_after-requires-in-loop-joint-clause-from g c =
    subst (λ (l : List (ℕ × g.row.M-State.Denot)). AreStatesAt g.M.Machine.occurs c.args.machines.now c.args.at l) (sym c.as_slice-in-loop-joint.ensures.value)
    (all_at (λ (joint : Vec (ℕ × g.row.M-State.Denot) Global). AreStatesAt g.M.Machine.occurs c.args.machines.now c.args.at joint.items) c.args.joints.now c.loop-joint.joint-index c.joint-item.result
    c.loop-joint-test.true c.joint-item.is c.requires.layer.occur)

pub loop-joint-preserved : goal.loop-joint-preserved
loop-joint-preserved g c =
    let rules = g.M.Machine.rules in
    let ms = c.args.machines.now in
    let at = c.args.at in
    let base = c.len.result + length c.args.joints.now in
    let keys_0 = c.loop-joint.layer.keys in
    let keys_1 = c.number_after.new.layer.keys in
    let keys_2 = c.number_after-in-loop-joint.new.layer.keys in
    let states = λ (joint : Vec (ℕ × g.row.M-State.Denot) Global). joint.items in
    let one = c.in_ok-on_false.ensures.grows in
    let two = c.in_ok-on_true.ensures.grows in
    let row : Row = record { on_false = c.in_ok-on_false.on_false; on_true = c.in_ok-on_true.on_true; accepts = false } in
    let to_false = subst (λ (l : List (ℕ × g.row.M-State.Denot)). LeadsTo rules states ms at false base l keys_1 c.in_ok-on_false.on_false) c.as_slice.ensures.value c.in_ok-on_false.ensures.next in
    let to_true = subst (λ (l : List (ℕ × g.row.M-State.Denot)). LeadsTo rules states ms at true base l keys_2 c.in_ok-on_true.on_true) c.as_slice-in-loop-joint.ensures.value c.in_ok-on_true.ensures.next in
    record {
      occur = c.in_ok-on_true.ensures.occur;
      appends = rows_more (IsRowOf rules states ms at base keys_2) (take c.loop-joint.joint-index c.args.joints.now) _ c.joint-item.result row c.args.rows.now.items c.loop-joint.rows.items c.push.new.self.items
          (rows_weaker (IsRowOf rules states ms at base keys_0) (IsRowOf rules states ms at base keys_2)
          (λ j r h. row_grows rules states ms at base keys_1 two.0 keys_2 two.1 j r (row_grows rules states ms at base keys_0 one.0 keys_1 one.1 j r h))
          (take c.loop-joint.joint-index c.args.joints.now) c.args.rows.now.items c.loop-joint.rows.items c.loop-joint.invariant.appends)
          (leads_grow rules states ms at false base c.joint-item.result.items keys_1 two.0 keys_2 two.1 c.in_ok-on_false.on_false to_false, to_true)
          (take_next c.args.joints.now c.loop-joint.joint-index c.joint-item.result c.loop-joint-test.true c.joint-item.is) c.in_ok-push.ensures.items;
    }

pub returns : goal.returns
returns g c =
    let so = c.loop-joint.invariant.appends in
    let base = c.len.result + length c.args.joints.now in
    let states = λ (joint : Vec (ℕ × g.row.M-State.Denot) Global). joint.items in
    let long = c.args.rows.now.ok.0 in
    let counted = c.len.ensures in
    let begins : base ≡ length c.args.rows.now.items + length c.args.joints.now = omega (arith, long, counted) in
    layer_next g.M.Machine.rules states c.args.machines.now g.M.Machine.occurs c.args.rows.now.items so.0 c.loop-joint.rows.items c.args.at base c.args.joints.now c.loop-joint.layer.keys begins so.1 c.requires.layer
    (subst (λ (l : List (Vec (ℕ × g.row.M-State.Denot) Global)). AllZip (IsRowOf g.M.Machine.rules states c.args.machines.now c.args.at base c.loop-joint.layer.keys) l so.0)
    (take_all c.loop-joint.joint-index c.args.joints.now c.loop-joint-test.false) so.2)
    c.loop-joint.invariant.occur
