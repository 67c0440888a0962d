use Rattle.search_moves.proofs.Singles.{in_no_box}
use Rattle.search_moves.proofs.singling.single_values_stand_in_no_box.Goals as goal

pub returns : goal.returns
returns g c = in_no_box (g.P.Rules.problem c.args.problem.now)
