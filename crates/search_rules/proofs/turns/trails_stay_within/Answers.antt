use Rattle.search_rules.proofs.TrailLemmas.{top_low}
use Rattle.search_rules.proofs.WalkLemmas.{replays_within}
use Rattle.search_rules.proofs.LearnLemmas.{replays_values}
use Rattle.search_rules.proofs.turns.trails_stay_within.Goals as goal

pub returns-clause-initial : goal.returns-clause-initial
returns-clause-initial g c boxes es f trail = replays_within (g.P.Rules.problem c.args.problem.now) es f trail.replays

pub returns-clause-values : goal.returns-clause-values
returns-clause-values g c boxes es f trail values =
    replays_values (g.P.Rules.problem c.args.problem.now) es f trail.replays values

pub returns-clause-levels : goal.returns-clause-levels
returns-clause-levels g c boxes es f trail = top_low (g.P.Rules.problem c.args.problem.now) es f trail.replays
