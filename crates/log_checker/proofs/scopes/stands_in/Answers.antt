use Rattle.log_checker.proofs.ScopeLaws.{stands}
use Rattle.log_checker.proofs.scopes.stands_in.Goals as goal

pub returns : goal.returns
returns c = stands _ _ _ _ c.requires c.is_among.ensures
