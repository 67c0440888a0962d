use Rattle.std.proofs.Common.{take}
use Rattle.std.specs.List.{AllZip}
use Rattle.int_channel.specs.Machines.{IsMachineOfBranch}
use Rattle.int_channel.proofs.branches.branch_machines.Given as goal

abbrev pub invariant-loop-branch : goal.invariant-loop-branch
invariant-loop-branch l = AllZip (λ b m. IsMachineOfBranch l.layout l.bits b m.first m.second) (take l.branch-index l.branches) l.machines.items
