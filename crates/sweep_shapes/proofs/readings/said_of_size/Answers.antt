use Rattle.std.proofs.Common.{rules, true, pos, FitsSigned, w64, arith}
use Rattle.std.specs.Prelude.{◌<ℤ◌}
use Rattle.std.proofs.lemmas.Int.{ints, to_z-of_z}
use Rattle.sweep_shapes.proofs.SetKinds.{read_plainly}
use Rattle.sweep_shapes.proofs.Cards.{none_of_fewer}
use Rattle.sweep_shapes.proofs.readings.said_of_size.Goals as goal

pub returns-then-n-lt0 : goal.returns-then-n-lt0
returns-then-n-lt0 c = λ values assignment h.
    let fits : FitsSigned w64 c.in-Some.n = search rules in
    let below = simp to_z-of_z at c.if-n-lt0.true in
    let negative : c.in-Some.n <ℤ pos 0 = omega (arith, ints, below) in
    none_of_fewer c.args.kinds.now c.args.c.now c.args.c.now c.args.variables.now c.in-Some.n c.in-Some._set.now values
    (read_plainly c.args.kinds.now c.args.c.now c.args.variables.now true c.requires.fits c.requires.scope c.requires.asks) c.in-Some.ensures negative assignment h
