use Rattle.search_rules.proofs.StateLemmas.{trail_narrowed, narrowing_falls}
use Rattle.search_rules.proofs.turns.narrowing_keeps_the_state_legal.Goals as goal

pub returns-clause-legal : goal.returns-clause-legal
returns-clause-legal g c answers boxes es f v s r legal known part made reason =
    record { trail = trail_narrowed legal.trail known part made reason; safe = legal.safe; walked = legal.walked }

pub returns-clause-falls : goal.returns-clause-falls
returns-clause-falls g c answers boxes es f v s r legal known part made reason =
    narrowing_falls (g.P.Rules.problem c.args.problem.now) es f v s r (trail_narrowed legal.trail known part made reason).replays
