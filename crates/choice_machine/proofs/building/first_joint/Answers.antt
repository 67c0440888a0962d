use Rattle.std.proofs.Common.{◌≡◌, ℕ, List, length, refl, subst}
use Rattle.std.proofs.lemmas.Option.{slice_get_read}
use Rattle.choice_machine.specs.Choices.{IsLost}
use Rattle.choice_machine.specs.Building.{AppendsUnless}
use Rattle.choice_machine.proofs.Joints.{starts_more, occur_more}
use Rattle.choice_machine.proofs.building.first_joint.Goals as goal

pub loop-number-preserved : goal.loop-number-preserved
loop-number-preserved g c =
    let ms = c.args.machines.now in
    let i = c.loop-number.number in
    let m = c.index-machines-number.result in
    let at = slice_get_read ms (length ms) i m refl c.loop-number-test.true c.index-machines-number.is in
    let so : AppendsUnless (IsLost (g.M.Machine.rules m) 0 c.start.result) c.loop-number.joint.items c.push_unless_lost.new.joint.items (i, c.start.result) = c.in_ok-push_unless_lost.ensures in
    record {
      occur = occur_more g.M.Machine.occurs ms 0 c.loop-number.joint.items c.push_unless_lost.new.joint.items (i, c.start.result) (IsLost (g.M.Machine.rules m) 0 c.start.result) (m, at, c.start.ensures.first) so c.loop-number.invariant.occur;
      starts = starts_more g.M.Machine.rules ms i m c.loop-number.joint.items c.push_unless_lost.new.joint.items at c.loop-number.invariant.starts
          (subst (λ q. AppendsUnless (IsLost (g.M.Machine.rules m) 0 q) c.loop-number.joint.items c.push_unless_lost.new.joint.items (i, q)) c.start.ensures.state so);
    }
