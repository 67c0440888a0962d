use Rattle.std.proofs.Common.{take}
use Rattle.fzn_model.specs.Builds.{IsBuilt}
use Rattle.fzn_model.proofs.building.drafted.Given as goal

abbrev pub invariant-loop-i : goal.invariant-loop-i
invariant-loop-i l = IsBuilt (take l.i l.items) l.draft
