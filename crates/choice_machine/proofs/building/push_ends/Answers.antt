use Rattle.std.proofs.Common.{◌≡◌, ◌↔◌, ℕ, true, length, get_or, take, List, Vec, Global, refl, sym, subst}
use Rattle.std.specs.List.{AllZip}
use Rattle.std.proofs.lemmas.List.{take_all}
use Rattle.choice_machine.specs.declared.rows.Row.{Row}
use Rattle.choice_machine.specs.Building.{AreStatesAt, SomeAccepts, IsEndOf}
use Rattle.choice_machine.proofs.Lists.{all_at, take_next}
use Rattle.choice_machine.proofs.Layers.{rows_more, layer_ends}
use Rattle.choice_machine.proofs.building.push_ends.Goals as goal

pub some_accepts-requires-clause-from : goal.some_accepts-requires-clause-from
some_accepts-requires-clause-from g c =
    subst (AreStatesAt g.M.Machine.occurs c.args.machines.now c.args.places) (sym c.as_slice.ensures.value)
    (all_at (λ (joint : Vec (ℕ × g.row.M-State.Denot) Global). AreStatesAt g.M.Machine.occurs c.args.machines.now c.args.places joint.items) c.args.joints.now c.loop-joint.joint-index c.joint-item.result
    c.loop-joint-test.true c.joint-item.is c.requires.layer.occur)

pub loop-joint-preserved : goal.loop-joint-preserved
loop-joint-preserved g c =
    let row : Row = record { on_false = 0; on_true = 0; accepts = c.some_accepts.result } in
    rows_more (IsEndOf g.M.Machine.rules (λ (joint : Vec (ℕ × g.row.M-State.Denot) Global). joint.items) c.args.machines.now) (take c.loop-joint.joint-index c.args.joints.now) _ c.joint-item.result row
    c.args.rows.now.items c.loop-joint.rows.items c.push.new.self.items c.loop-joint.invariant
    (refl, refl, subst (λ l. (c.some_accepts.result ≡ true) ↔ SomeAccepts g.M.Machine.rules c.args.machines.now l) c.as_slice.ensures.value c.some_accepts.ensures)
    (take_next c.args.joints.now c.loop-joint.joint-index c.joint-item.result c.loop-joint-test.true c.joint-item.is) c.in_ok-push.ensures.items

pub returns : goal.returns
returns g c =
    let so = c.loop-joint.invariant in
    layer_ends g.M.Machine.rules (λ (joint : Vec (ℕ × g.row.M-State.Denot) Global). joint.items) c.args.machines.now g.M.Machine.occurs c.args.rows.now.items so.0 c.loop-joint.rows.items c.args.places c.args.joints.now so.1 c.requires.layer
    (subst (λ l. AllZip (IsEndOf g.M.Machine.rules (λ (joint : Vec (ℕ × g.row.M-State.Denot) Global). joint.items) c.args.machines.now) l so.0) (take_all c.loop-joint.joint-index c.args.joints.now c.loop-joint-test.false) so.2)
