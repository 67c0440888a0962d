use Rattle.fzn_model.specs.Items.{parts_of}
use Rattle.fzn_model.specs.PartFaults.{IsFound, OfExpression}
use Rattle.fzn_model.specs.State.{naming_of}
use Rattle.fzn_model.proofs.Founds.{first_given, none_given}
use Rattle.fzn_model.proofs.expressions.fault_in_given.Goals as goal

pub returns-in-None : goal.returns-in-None
returns-in-None c = rw c.in-None.is (none_given (naming_of c.args.declared.now) c.args.start)

pub returns-in_ok-found-in-Some : goal.returns-in_ok-found-in-Some
returns-in_ok-found-in-Some c =
    let naming = naming_of c.args.declared.now in
    let found : IsFound (OfExpression naming c.args.shape c.in-Some.value) naming c.args.start (parts_of c.in-Some.value) c.in_ok-found-in-Some.found
    = c.in_ok-found-in-Some.ensures in
    rw (c.in-Some.is, c.earlier.ensures) (first_given naming c.args.shape c.in-Some.value c.args.start c.in_ok-found-in-Some.found found)
