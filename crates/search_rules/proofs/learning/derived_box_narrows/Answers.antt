use Rattle.search_rules.proofs.LearnLemmas.{stop_of, some_known, back_below, derived_narrows}
use Rattle.search_rules.proofs.learning.derived_box_narrows.Goals as goal

pub returns-clause-below : goal.returns-clause-below
returns-clause-below g c boxes es f b l v k trail derives level = back_below (stop_of trail derives) level

pub returns-clause-narrows : goal.returns-clause-narrows
returns-clause-narrows g c boxes es f b l v k trail derives level = derived_narrows (stop_of trail derives) level

pub returns-clause-known : goal.returns-clause-known
returns-clause-known g c boxes es f b l v trail derives =
    let stop = stop_of trail derives in
    some_known (g.P.Rules.problem c.args.problem.now) stop.rest stop.reached b l v stop.trail.replays stop.stops.some
