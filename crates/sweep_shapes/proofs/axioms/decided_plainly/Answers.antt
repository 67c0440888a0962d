use Rattle.std.proofs.Common.{true}
use Rattle.sweep_shapes.proofs.SetKinds.{read_plainly}
use Rattle.sweep_shapes.proofs.axioms.decided_plainly.Goals as goal

pub decided_as-requires-in-Same-clause-read : goal.decided_as-requires-in-Same-clause-read
decided_as-requires-in-Same-clause-read c = read_plainly c.args.kinds.now c.args.c.now c.args.variables.now true c.requires.fits c.requires.variables c.requires.asks
