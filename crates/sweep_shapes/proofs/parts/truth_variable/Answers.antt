use Rattle.sweep_shapes.proofs.Standing.{truth_named}
use Rattle.sweep_shapes.proofs.parts.truth_variable.Goals as goal

pub returns-in-Some : goal.returns-in-Some
returns-in-Some c = truth_named c.args.c.now c.in-Some.term c.variable_in.result c.in-Some.is c.variable_in.ensures
