use Rattle.diagram_arena.specs.Arena.{table}
use Rattle.propagation_tests.proofs.SetSamples.{zero_values, one_values}
use Rattle.propagation_tests.proofs.samples.set_of.Goals as goal

pub returns-in-0-clause-set : goal.returns-in-0-clause-set
returns-in-0-clause-set c = zero_values c.args.layout.now (table c.args.ops.now.arena) c.args.v c.obeys_order.ensures c.requires.sets c.requires.known

pub returns-in_default-clause-set : goal.returns-in_default-clause-set
returns-in_default-clause-set c = one_values c.args.layout.now (table c.args.ops.now.arena) c.args.v c.obeys_order.ensures c.requires.sets c.requires.known
