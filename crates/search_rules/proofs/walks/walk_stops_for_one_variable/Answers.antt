use Rattle.search_rules.proofs.WalkLemmas.{stops_once}
use Rattle.search_rules.proofs.walks.walk_stops_for_one_variable.Goals as goal

pub returns : goal.returns
returns g c = stops_once
