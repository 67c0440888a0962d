use Rattle.value_sets.proofs.Deciding.{met_or_apart}
use Rattle.value_sets.proofs.laws.value_sets_meet_or_are_apart.Goals as goal

pub returns : goal.returns
returns c = met_or_apart
