use Rattle.diagram_arena.specs.Arena.{table}
use Rattle.step_tests.proofs.StepSamples.{one_domain}
use Rattle.step_tests.proofs.steps.domain.Goals as goal

pub returns-in-None-clause-domain : goal.returns-in-None-clause-domain
returns-in-None-clause-domain c = one_domain c.args.layout.now (table c.args.ops.now.arena) c.args.v c.obeys_order.ensures c.requires.sets c.requires.known
