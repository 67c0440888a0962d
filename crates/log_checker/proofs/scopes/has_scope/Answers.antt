use Rattle.log_checker.proofs.ScopeLaws.{scope_there, scope_not_there}
use Rattle.log_checker.proofs.scopes.has_scope.Goals as goal

pub returns-in_ok-yes-in-Some : goal.returns-in_ok-yes-in-Some
returns-in_ok-yes-in-Some c =
    scope_there c.args.check.now.problem.now.constraints c.args.constraint _ c.args.sides.now _ c.in-Some.ensures.some c.in_ok-yes-in-Some.ensures

pub returns-in-None : goal.returns-in-None
returns-in-None c = scope_not_there c.args.check.now.problem.now.constraints c.args.constraint c.args.sides.now c.in-None.ensures.none
