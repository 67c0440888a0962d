use Rattle.std.proofs.Common.{List, sym, subst}
use Rattle.std.specs.List.{AllZip}
use Rattle.set_meaning.specs.declared.kinds.Kind.{Kind}
use Rattle.set_meaning.specs.declared.problems.Arg.{Arg}
use Rattle.set_meaning.specs.Rows.{HasShape, row_of, shapes_of}
use Rattle.int_channel.proofs.shapes.scalar_shape.Goals as goal

pub shape_over-requires-clause-fits : goal.shape_over-requires-clause-fits
shape_over-requires-clause-fits c =
    subst (λ (ks : List Kind). AllZip (HasShape ks) (shapes_of (row_of c.args.c.now.relation)) c.items-2.result.now) (sym c.items.ensures)
    (subst (λ (xs : List Arg). AllZip (HasShape c.args.p.now.kinds) (shapes_of (row_of c.args.c.now.relation)) xs) (sym c.items-2.ensures) c.requires.fits.args)

pub shape_over-requires-clause-paired : goal.shape_over-requires-clause-paired
shape_over-requires-clause-paired c = rw (c.items-2.ensures) c.requires.fits.paired

pub shape_over-requires-clause-few : goal.shape_over-requires-clause-few
shape_over-requires-clause-few c = rw (c.items-2.ensures) c.requires.few

pub shape_over-requires-clause-numbers : goal.shape_over-requires-clause-numbers
shape_over-requires-clause-numbers c = rw (c.items.ensures) c.requires.numbers

pub shape_over-requires-clause-constants : goal.shape_over-requires-clause-constants
shape_over-requires-clause-constants c = rw (c.items-2.ensures) c.requires.constants

pub shape_over-requires-clause-terms : goal.shape_over-requires-clause-terms
shape_over-requires-clause-terms c = rw (c.items-2.ensures) c.requires.terms

pub returns-clause-diagram : goal.returns-clause-diagram
returns-clause-diagram c = rw c.items-2.ensures at c.shape_over.ensures.diagram

pub returns-clause-parts : goal.returns-clause-parts
returns-clause-parts c = rw c.items-2.ensures at c.shape_over.ensures.parts

pub returns-clause-reach : goal.returns-clause-reach
returns-clause-reach c = rw c.items-2.ensures at c.shape_over.ensures.reach
