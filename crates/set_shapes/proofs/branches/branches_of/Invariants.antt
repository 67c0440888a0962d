use Rattle.std.proofs.Common.{length, All}
use Rattle.set_shapes.specs.Elements.{IsBranchOver}
use Rattle.set_shapes.proofs.AllBranches.{TellSome}
use Rattle.set_shapes.proofs.branches.branches_of.Given as goal

abbrev pub invariant-loop-number : goal.invariant-loop-number
invariant-loop-number l = All (IsBranchOver (length l.bits)) l.machines.items × TellSome l.layout l.bits l.index l.set l.items l.number l.machines.items
