use Rattle.std.proofs.Common.{take}
use Rattle.std.specs.List.{flat_map}
use Rattle.fzn_model.specs.Items.{parts_of}
use Rattle.fzn_model.specs.PartFaults.{IsFound, OfAsked, OfSome, with_shapes}
use Rattle.fzn_model.specs.State.{naming_of}
use Rattle.fzn_model.proofs.expressions.found_in_arguments.Given as goal

-- what is found in the arguments so far
abbrev pub invariant-loop-i : goal.invariant-loop-i
invariant-loop-i l =
    IsFound (OfSome (OfAsked (naming_of l.declared)) (take l.i (with_shapes l.shapes l.args))) (naming_of l.declared) l.start
    (flat_map parts_of (take l.i l.args)) l.found
