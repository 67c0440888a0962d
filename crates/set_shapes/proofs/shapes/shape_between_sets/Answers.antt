use Rattle.diagram_ops.proofs.Steps.{no_news}
use Rattle.diagram_arena.specs.Part.{IsPartOf}
use Rattle.set_shapes.specs.Operands.{operands_of}
use Rattle.set_shapes.proofs.Accepting.{table_long}
use Rattle.set_shapes.proofs.Ends.{sets_for, shape_table, shape_there, grouped_for, diagram_made, bits_pass}
use Rattle.set_shapes.proofs.shapes.shape_between_sets.Goals as goal

pub table_of-requires-clause-sets : goal.table_of-requires-clause-sets
table_of-requires-clause-sets c = sets_for c.args.layout.now c.args.p.now.kinds _ c.args.c.now.relation c.args.c.now.args _ c.obeys_order.ensures c.requires.layout c.items.ensures c.items-2.ensures c.requires.shape c.requires.fits.args

pub diagram_of-requires-clause-few : goal.diagram_of-requires-clause-few
diagram_of-requires-clause-few c =
    c.requires.few _ (shape_table c.args.layout.now c.args.p.now.kinds c.args.c.now.relation c.args.c.now.args _ c.machine_of.result _ _ _ c.obeys_order.ensures c.requires.layout c.items-2.ensures c.machine_of.ensures c.requires.shape c.requires.fits.args c.in-Ok.ensures).bits_are

pub diagram_of-requires-clause-long : goal.diagram_of-requires-clause-long
diagram_of-requires-clause-long c = table_long c.args.layout.now (operands_of c.items-2.result.now) _ _ _ c.in-Ok.ensures

pub diagram_of-requires-clause-grouped : goal.diagram_of-requires-clause-grouped
diagram_of-requires-clause-grouped c =
    grouped_for c.args.layout.now c.args.p.now.kinds c.args.c.now.relation c.args.c.now.args _ _ _ _ c.obeys_order.ensures c.requires.layout c.items-2.ensures c.requires.shape c.requires.fits.args c.in-Ok.ensures

pub returns-in-Ok-clause-diagram : goal.returns-in-Ok-clause-diagram
returns-in-Ok-clause-diagram c =
    diagram_made c.args.layout.now c.args.c.now.relation c.args.c.now.args _ _ _ _
    (shape_table c.args.layout.now c.args.p.now.kinds c.args.c.now.relation c.args.c.now.args _ c.machine_of.result _ _ _ c.obeys_order.ensures c.requires.layout c.items-2.ensures c.machine_of.ensures c.requires.shape c.requires.fits.args c.in-Ok.ensures)
    c.diagram_of.ensures.words

pub returns-in-Ok-clause-parts : goal.returns-in-Ok-clause-parts
returns-in-Ok-clause-parts c =
    let is =
    (shape_table c.args.layout.now c.args.p.now.kinds c.args.c.now.relation c.args.c.now.args _ c.machine_of.result _ _ _ c.obeys_order.ensures c.requires.layout c.items-2.ensures c.machine_of.ensures c.requires.shape c.requires.fits.args c.in-Ok.ensures) in
    (_, is.words, c.diagram_of.ensures.parts)

pub returns-in-Ok-clause-reach : goal.returns-in-Ok-clause-reach
returns-in-Ok-clause-reach c set all =
    c.diagram_of.ensures.reach set
    (bits_pass c.args.layout.now c.args.c.now.relation c.args.c.now.args _ _ set
    (shape_table c.args.layout.now c.args.p.now.kinds c.args.c.now.relation c.args.c.now.args _ c.machine_of.result _ _ _ c.obeys_order.ensures c.requires.layout c.items-2.ensures c.machine_of.ensures c.requires.shape c.requires.fits.args c.in-Ok.ensures)
    all)

pub returns-in-Err-clause-parts : goal.returns-in-Err-clause-parts
returns-in-Err-clause-parts c =
    let there = shape_there c.args.layout.now c.args.p.now.kinds c.args.c.now.relation c.args.c.now.args c.obeys_order.ensures c.requires.layout c.requires.shape c.requires.fits.args in
    (there.0, there.1, no_news _ (λ V. IsPartOf V there.0))
