use Rattle.std.proofs.Common.{List, subst}
use Rattle.std.specs.List.{AllZip}
use Rattle.std.proofs.lemmas.List.{take_all}
use Rattle.bit_layout.proofs.Listing.{all_zip_next}
use Rattle.int_channel.specs.declared.forms.Branch.{Branch}
use Rattle.int_channel.specs.Machines.{IsMachineOfBranch}
use Rattle.int_channel.proofs.Made.{Pair}
use Rattle.int_channel.proofs.branches.branch_machines.Goals as goal

pub loop-branch-preserved : goal.loop-branch-preserved
loop-branch-preserved c =
    let R : Branch → Pair → Type 0 = λ b m. IsMachineOfBranch c.args.layout.now c.args.bits.now b m.first m.second in
    let m : Pair = c.in_ok-branch_machine.field-0 in
    all_zip_next R c.args.branches.now c.loop-branch.machines.items c.push.new.self.items c.loop-branch.branch-index c.branch-item.result m c.loop-branch-test.true c.in_ok-push.ensures.items c.loop-branch.invariant
    (subst (λ b. R b m) c.branch-item.is c.in_ok-branch_machine.ensures)

pub returns : goal.returns
returns c =
    let R : Branch → Pair → Type 0 = λ b m. IsMachineOfBranch c.args.layout.now c.args.bits.now b m.first m.second in
    subst (λ (bs : List Branch). AllZip R bs c.loop-branch.machines.items) (take_all c.loop-branch.branch-index c.args.branches.now c.loop-branch-test.false) c.loop-branch.invariant
