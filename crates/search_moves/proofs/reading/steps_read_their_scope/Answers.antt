use Rattle.search_moves.proofs.Sets.{left_alike, violated_alike, left_outside}
use Rattle.search_moves.proofs.reading.steps_read_their_scope.Goals as goal

pub returns-clause-left : goal.returns-clause-left
returns-clause-left g c = left_alike (g.P.Rules.problem c.args.problem.now)

pub returns-clause-violated : goal.returns-clause-violated
returns-clause-violated g c = violated_alike (g.P.Rules.problem c.args.problem.now)

pub returns-clause-outside : goal.returns-clause-outside
returns-clause-outside g c = left_outside (g.P.Rules.problem c.args.problem.now)
