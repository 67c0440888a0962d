use Rattle.std.proofs.Common.{sym, subst}
use Rattle.set_meaning.specs.Relations.{IsScope}
use Rattle.sweep_shapes.proofs.SetKinds.{read_plainly}
use Rattle.sweep_shapes.proofs.axioms.decided.Goals as goal

pub decided_as-requires-clause-read : goal.decided_as-requires-clause-read
decided_as-requires-clause-read c =
    read_plainly c.args.kinds.now c.args.c.now c.as_slice-variables.result.now c.in-Some.truth c.requires.fits
    (subst (IsScope c.args.c.now) (sym c.as_slice-variables.ensures.value) c.in_ok-variables.ensures) c.in-Some.ensures
