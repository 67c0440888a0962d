use Rattle.std.proofs.Common.{take}
use Rattle.fzn_model.specs.PartFaults.{IsFound, OfPart, OfSome}
use Rattle.fzn_model.specs.State.{naming_of}
use Rattle.fzn_model.proofs.expressions.found_in_items.Given as goal

-- what is found in the items so far
abbrev pub invariant-loop-item : goal.invariant-loop-item
invariant-loop-item l =
    IsFound (OfSome (OfPart (naming_of l.declared) l.shape) (take l.item-index l.items)) (naming_of l.declared) l.start
    (take l.item-index l.items) l.found
