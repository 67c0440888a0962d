use Rattle.solve_top.proofs.Files.{run_means, run_causes}
use Rattle.solve_top.proofs.running.run.Goals as goal

pub returns-clause-means : goal.returns-clause-means
returns-clause-means g c = run_means _ _ _ _ _ _ _ _ _ _ c.begin-ending.ensures.begins c.print.ensures.prints

pub returns-clause-causes : goal.returns-clause-causes
returns-clause-causes g c = run_causes _ _ _ _ _ _ _ _ _ _ c.begin-ending.ensures.begins c.print.ensures.prints
