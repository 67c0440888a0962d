use Rattle.refute_log.proofs.Keeping.{names_side}
use Rattle.refute_log.proofs.laws.numbers_are_sides.Goals as goal

pub returns : goal.returns
returns c = names_side
