use Rattle.search_rules.proofs.TrailLemmas.{quiet_below}
use Rattle.search_moves.proofs.levels.levels_below_are_quiet.Goals as goal

pub returns : goal.returns
returns g c boxes es f k trail below =
    quiet_below (g.P.Rules.problem c.args.problem.now) boxes es f k trail.replays trail.reasons below
