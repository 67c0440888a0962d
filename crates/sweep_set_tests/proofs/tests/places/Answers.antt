use Rattle.sweep_set_tests.proofs.Samples.{six_ascend, six_have_elements}
use Rattle.sweep_set_tests.proofs.tests.places.Goals as goal

pub returns-clause-ascending : goal.returns-clause-ascending
returns-clause-ascending c = six_ascend

pub returns-clause-elements : goal.returns-clause-elements
returns-clause-elements c = six_have_elements
