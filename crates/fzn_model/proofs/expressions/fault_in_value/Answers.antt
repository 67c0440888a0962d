use Rattle.fzn_model.specs.Items.{parts_of}
use Rattle.fzn_model.specs.PartFaults.{IsFound, OfAsked, OfExpression}
use Rattle.fzn_model.specs.State.{naming_of}
use Rattle.fzn_model.proofs.PartFirsts.{first_single}
use Rattle.fzn_model.proofs.expressions.fault_in_value.Goals as goal

pub returns : goal.returns
returns c =
    let found : IsFound (OfExpression (naming_of c.args.declared.now) c.args.shape c.args.value.now) (naming_of c.args.declared.now) 0 (parts_of c.args.value.now) c.in_ok-found.found
    = c.in_ok-found.ensures in
    first_single (OfAsked (naming_of c.args.declared.now)) (c.args.shape, c.args.value.now) c.in_ok-found.found.fault found.fault
