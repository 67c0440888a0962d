use Rattle.sweep_set_tests.proofs.Samples.{pair_fits}
use Rattle.sweep_set_tests.proofs.tests.pair.Goals as goal

pub returns : goal.returns
returns c = pair_fits
