use Rattle.search_rules.proofs.StateLemmas.{trail_decided, decision_falls}
use Rattle.search_rules.proofs.turns.decision_keeps_the_state_legal.Goals as goal

pub returns-clause-legal : goal.returns-clause-legal
returns-clause-legal g c answers boxes es f v s legal known part rule quiet =
    record { trail = trail_decided legal.trail known part rule quiet; safe = legal.safe; walked = legal.walked }

pub returns-clause-falls : goal.returns-clause-falls
returns-clause-falls g c answers boxes es f v s legal known part rule quiet =
    decision_falls (g.P.Rules.problem c.args.problem.now) es f v s (trail_decided legal.trail known part rule quiet).replays
