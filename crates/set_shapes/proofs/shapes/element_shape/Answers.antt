use Rattle.std.proofs.Common.{◌≤◌, ℕ, List, length, ap, sym, ◌∙◌, subst}
use Rattle.std.specs.List.Sorted.{IsStrictlyIncreasing}
use Rattle.diagram_ops.proofs.Steps.{no_news}
use Rattle.diagram_arena.specs.Part.{IsPartOf}
use Rattle.bit_machine.specs.Rules.{most_bits}
use Rattle.set_shapes.proofs.ElementEnds.{element_fitted, element_built, element_there, element_diagram, element_bits_pass}
use Rattle.set_shapes.proofs.shapes.element_shape.Goals as goal

pub item_machine-requires-clause-fits : goal.item_machine-requires-clause-fits
item_machine-requires-clause-fits c = element_fitted c.args.p.now.kinds _ c.args.c.now.relation c.args.c.now.args _ c.items.ensures c.items-2.ensures c.requires.shape c.requires.fits.args

pub returns-in-Ok-clause-diagram : goal.returns-in-Ok-clause-diagram
returns-in-Ok-clause-diagram c =
    let own = element_built c.args.layout.now c.args.c.now.relation c.args.c.now.args _ _ c.as_slice.result.now _ _ c.requires.shape c.items-2.ensures c.as_slice.ensures.value c.in-Ok.ensures in
    element_diagram c.args.layout.now _ _ _ _ c.build.result own.words c.build.ensures.words

pub returns-in-Ok-clause-parts : goal.returns-in-Ok-clause-parts
returns-in-Ok-clause-parts c =
    let own = element_built c.args.layout.now c.args.c.now.relation c.args.c.now.args _ _ c.as_slice.result.now _ _ c.requires.shape c.items-2.ensures c.as_slice.ensures.value c.in-Ok.ensures in
    (_, own.words, c.build.ensures.parts)

pub returns-in-Ok-clause-reach : goal.returns-in-Ok-clause-reach
returns-in-Ok-clause-reach c set all =
    let own = element_built c.args.layout.now c.args.c.now.relation c.args.c.now.args _ _ c.as_slice.result.now _ _ c.requires.shape c.items-2.ensures c.as_slice.ensures.value c.in-Ok.ensures in
    c.build.ensures.reach set (element_bits_pass c.args.layout.now _ _ set own.bits_are all)

pub returns-in-Err-clause-parts : goal.returns-in-Err-clause-parts
returns-in-Err-clause-parts c =
    let there = element_there c.elements_have_words.ensures c.args.layout.now c.args.c.now.relation c.args.c.now.args c.obeys_order.ensures c.requires.shape in
    (there.0, there.1, no_news _ (λ V. IsPartOf V there.0))
