use Rattle.log_checker.proofs.Boxes.{lies_there, lies_nowhere}
use Rattle.log_checker.proofs.resolvents.lies_at.Goals as goal

pub returns-in_ok-yes-in-Some : goal.returns-in_ok-yes-in-Some
returns-in_ok-yes-in-Some c = lies_there _ _ _ _ _ _ _ _ c.in-Some.ensures.some c.in_ok-yes-in-Some.ensures

pub returns-in-None : goal.returns-in-None
returns-in-None c = lies_nowhere _ _ _ _ _ _ c.in-None.ensures.none
