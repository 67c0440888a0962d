use Rattle.sweep_shapes.proofs.ReadArrays.{read_some}
use Rattle.sweep_shapes.proofs.readings.said_of_some.Goals as goal

pub returns-in_ok-read-in-Some : goal.returns-in_ok-read-in-Some
returns-in_ok-read-in-Some c =
    read_some c.args.kinds.now c.args.c.now c.in_ok-read-in-Some.read c.args.variables.now c.in-Some.items.now c.in-Some.truth c.requires.relation c.requires.fits c.requires.scope c.requires.asks c.in-Some.ensures
    c.in_ok-read-in-Some.ensures
