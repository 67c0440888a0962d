use Rattle.table_machine.proofs.Fitting.{values_fit}
use Rattle.table_machine.proofs.laws.values_fit_together.Goals as goal

pub returns : goal.returns
returns c l scope w ok has = values_fit l scope w ok.limits.legal has
