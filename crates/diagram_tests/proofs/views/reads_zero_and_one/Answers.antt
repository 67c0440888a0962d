use Rattle.diagram_tests.proofs.Built.{zero_reaches, one_reaches}
use Rattle.diagram_tests.proofs.views.reads_zero_and_one.Goals as goal

pub first_open-requires-clause-holds : goal.first_open-requires-clause-holds
first_open-requires-clause-holds g c = one_reaches _ _

pub single-requires-clause-holds : goal.single-requires-clause-holds
single-requires-clause-holds g c = one_reaches _ _

pub single-requires-2-clause-holds : goal.single-requires-2-clause-holds
single-requires-2-clause-holds g c = zero_reaches _ _

pub bounds-requires-clause-holds : goal.bounds-requires-clause-holds
bounds-requires-clause-holds g c = zero_reaches _ _
