use Rattle.sweep_shapes.proofs.Standing.{argument_named}
use Rattle.sweep_shapes.proofs.parts.argument_variable.Goals as goal

pub returns-in-Some : goal.returns-in-Some
returns-in-Some c =
    argument_named c.args.c.now c.items.result.now c.args.i c.in-Some.arg.now c.one_variable.result c.items.ensures c.in-Some.ensures.lookup.3.0 c.in-Some.ensures.lookup.1 c.one_variable.ensures
