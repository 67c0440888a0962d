use Rattle.std.proofs.Common.{◌≡◌, ℕ, ◌+◌, List, length, refl}
use Rattle.std.proofs.lemmas.Option.{slice_get_within, slice_get_read}
use Rattle.choice_machine.specs.Choices.{IsLost}
use Rattle.choice_machine.specs.Building.{AreStatesAt, AppendsUnless, AppendsNext}
use Rattle.choice_machine.proofs.Joints.{appended, occur_more}
use Rattle.choice_machine.proofs.Outcomes.{on_ok_then}
use Rattle.choice_machine.proofs.building.push_after.Goals as goal

pub returns-clause-occur : goal.returns-clause-occur
returns-clause-occur g c =
    let ms = c.args.machines.now in
    let p = c.args.member in
    let m = c.index-machines-number.result in
    let at = slice_get_read ms (length ms) p.0 m refl (slice_get_within ms p.0 c.requires.from.0 c.requires.from.1) c.index-machines-number.is in
    let lost = IsLost (g.M.Machine.rules m) (c.args.at + 1) c.step.result in
    on_ok_then c.push_unless_lost.result (AppendsUnless lost c.args.next.now.items c.push_unless_lost.new.joint.items (p.0, c.step.result)) (AreStatesAt g.M.Machine.occurs ms (c.args.at + 1) c.push_unless_lost.new.joint.items)
    (λ so. occur_more g.M.Machine.occurs ms (c.args.at + 1) c.args.next.now.items c.push_unless_lost.new.joint.items (p.0, c.step.result) lost (m, at, c.step.ensures.to) so c.requires.occur) c.push_unless_lost.ensures

pub returns-clause-appends : goal.returns-clause-appends
returns-clause-appends g c =
    let ms = c.args.machines.now in
    let p = c.args.member in
    let m = c.index-machines-number.result in
    let at = slice_get_read ms (length ms) p.0 m refl (slice_get_within ms p.0 c.requires.from.0 c.requires.from.1) c.index-machines-number.is in
    let lost = IsLost (g.M.Machine.rules m) (c.args.at + 1) c.step.result in
    on_ok_then c.push_unless_lost.result (AppendsUnless lost c.args.next.now.items c.push_unless_lost.new.joint.items (p.0, c.step.result))
    (AppendsNext g.M.Machine.rules ms c.args.at c.args.value p c.args.next.now.items c.push_unless_lost.new.joint.items)
    (λ so. appended g.M.Machine.rules ms c.args.at c.args.value p c.args.next.now.items c.push_unless_lost.new.joint.items m c.step.result at c.step.ensures.state so) c.push_unless_lost.ensures
