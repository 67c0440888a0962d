use Rattle.std.proofs.Common.{sym, subst}
use Rattle.std.specs.List.{AllPass}
use Rattle.set_shapes.proofs.Ends.{parts_lent}
use Rattle.set_shapes.proofs.shapes.built.Goals as goal

pub returns-clause-parts : goal.returns-clause-parts
returns-clause-parts g c =
    parts_lent _ _ (g.M.ElementMachine.rules c.args.machine) _ _ _ _ _ _ c.as_slice.ensures.value c.as_slice-2.ensures.value c.as_slice-3.ensures.value c.build.ensures.parts

pub returns-clause-reach : goal.returns-clause-reach
returns-clause-reach g c set all = c.build.ensures.reach set (subst (AllPass set) (sym c.as_slice-3.ensures.value) all)
