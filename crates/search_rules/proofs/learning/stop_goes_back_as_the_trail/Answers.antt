use Rattle.std.proofs.Common.{◌<◌, ◌≤◌, arith}
use Rattle.search_rules.specs.Trail.{top}
use Rattle.search_rules.proofs.LearnLemmas.{stop_of, walk_cut}
use Rattle.search_rules.proofs.learning.stop_goes_back_as_the_trail.Goals as goal

pub returns-clause-family : goal.returns-clause-family
returns-clause-family g c boxes es f b l v k trail derives lt = (stop_of trail derives).same k lt

pub returns-clause-entries : goal.returns-clause-entries
returns-clause-entries g c boxes es f b l v k trail derives lt =
    let high : l ≤ top derives.rest = (stop_of trail derives).high in
    let below : k < top derives.rest = omega arith in
    (walk_cut k trail.replays derives.walk).1 below
