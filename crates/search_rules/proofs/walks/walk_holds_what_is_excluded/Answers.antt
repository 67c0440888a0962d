use Rattle.search_rules.proofs.WalkLemmas.{walk_trail, excluded_covered, walk_excludes, walk_holds, conflict_excludes, conflict_holds, replays_within}
use Rattle.search_rules.proofs.walks.walk_holds_what_is_excluded.Goals as goal

pub returns-clause-excluded : goal.returns-clause-excluded
returns-clause-excluded g c boxes es rest f b h d trail conflict walk = walk_excludes trail (conflict_excludes conflict) walk

pub returns-clause-holds : goal.returns-clause-holds
returns-clause-holds g c boxes es rest f b h d trail conflict walk =
    walk_holds trail (conflict_holds (replays_within (g.P.Rules.problem c.args.problem.now) es f trail.replays) conflict) walk

pub returns-clause-trail : goal.returns-clause-trail
returns-clause-trail g c boxes es rest f b h d trail walk = walk_trail trail walk

pub returns-clause-safe : goal.returns-clause-safe
returns-clause-safe g c answers boxes es rest f b h d legal conflict walk a solution within =
    excluded_covered (g.P.Rules.problem c.args.problem.now) boxes answers a legal.safe solution
    (walk_excludes legal.trail (conflict_excludes conflict) walk a within)
