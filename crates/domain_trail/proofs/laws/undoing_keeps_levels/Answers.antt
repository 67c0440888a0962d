use Rattle.domain_trail.proofs.Undoing.{cut_is}
use Rattle.domain_trail.proofs.laws.undoing_keeps_levels.Goals as goal

pub returns : goal.returns
returns c = cut_is
