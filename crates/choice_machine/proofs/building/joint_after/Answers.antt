use Rattle.std.proofs.Common.{◌≡◌, ℕ, List, take, sym, subst}
use Rattle.choice_machine.specs.Building.{IsNumbered, IsNext}
use Rattle.choice_machine.proofs.Lists.{all_at, take_next}
use Rattle.choice_machine.proofs.Joints.{next_more}
use Rattle.choice_machine.proofs.building.joint_after.Goals as goal

pub push_after-requires-clause-from : goal.push_after-requires-clause-from
push_after-requires-clause-from g c =
    all_at (λ p. IsNumbered c.args.machines.now p.0 (λ m. g.M.Machine.occurs m c.args.at p.1)) c.args.joint.now c.loop-member.member-index c.member-item.result c.loop-member-test.true c.member-item.is c.requires.from

pub loop-member-preserved : goal.loop-member-preserved
loop-member-preserved g c = record {
  occur = c.in_ok-push_after.ensures.occur;
  next = subst (λ (l : List (ℕ × g.row.M-State.Denot)). IsNext g.M.Machine.rules c.args.machines.now c.args.at c.args.value l c.push_after.new.next.items)
      (sym (take_next c.args.joint.now c.loop-member.member-index c.member-item.result c.loop-member-test.true c.member-item.is))
      (next_more g.M.Machine.rules c.args.machines.now c.args.at c.args.value (take c.loop-member.member-index c.args.joint.now) c.member-item.result c.loop-member.next.items c.push_after.new.next.items
      c.loop-member.invariant.next c.in_ok-push_after.ensures.appends);
}
