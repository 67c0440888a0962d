use Rattle.check_top.proofs.Runs.{check_means, check_causes}
use Rattle.check_top.proofs.running.check_run.Goals as goal

pub returns-clause-means : goal.returns-clause-means
returns-clause-means g c = check_means _ _ _ _ _ _ _ _ _ c.decide-ending.ensures _ c.print.ensures

pub returns-clause-causes : goal.returns-clause-causes
returns-clause-causes g c = check_causes _ _ _ _ _ _ _ _ _ c.decide-ending.ensures _ c.print.ensures
