use Rattle.search_rules.proofs.LearnLemmas.{stop_of, rest_level_is}
use Rattle.search_rules.proofs.learning.level_to_go_back_to.Goals as goal

pub returns : goal.returns
returns g c boxes es f b l v k trail derives newest = rest_level_is k (stop_of trail derives) newest
