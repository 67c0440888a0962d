use Rattle.search_rules.proofs.WalkLemmas.{walk_trail, no_decision}
use Rattle.search_rules.proofs.walks.walk_resolves_no_decision.Goals as goal

pub returns : goal.returns
returns g c boxes e es rest f b h d trail walk on matters =
    no_decision (g.P.Rules.problem c.args.problem.now) e rest h d (walk_trail trail walk).replays on matters
