use Rattle.diagram_ops.proofs.Projecting.{constant_of}
use Rattle.diagram_ops.proofs.operations.Ops.seen.Goals as goal

pub returns-in-Some-clause-found : goal.returns-in-Some-clause-found
returns-in-Some-clause-found c = constant_of _ c.pool.ensures.reduced c.args.work.now.pairs.pairs.items c.args.keep.now c.args.p c.in-Some.r c.requires.there c.in-Some.ensures.found
