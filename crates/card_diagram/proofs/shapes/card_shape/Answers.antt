use Rattle.diagram_ops.proofs.Steps.{no_news}
use Rattle.diagram_arena.specs.Part.{IsPartOf}
use Rattle.card_diagram.proofs.Ends.{card_built, card_there, diagram_made, bits_pass}
use Rattle.card_diagram.proofs.shapes.card_shape.Goals as goal

pub returns-in-Ok-clause-diagram : goal.returns-in-Ok-clause-diagram
returns-in-Ok-clause-diagram c =
    let own = card_built c.args.layout.now c.args.c.now.relation c.args.c.now.args _ _ c.as_slice.result.now _ _ c.requires.shape c.items-2.ensures c.as_slice.ensures.value c.in-Ok.ensures in
    diagram_made c.args.layout.now _ _ _ _ c.build.result own.words c.build.ensures.words

pub returns-in-Ok-clause-parts : goal.returns-in-Ok-clause-parts
returns-in-Ok-clause-parts c =
    let own = card_built c.args.layout.now c.args.c.now.relation c.args.c.now.args _ _ c.as_slice.result.now _ _ c.requires.shape c.items-2.ensures c.as_slice.ensures.value c.in-Ok.ensures in
    (_, own.words, c.build.ensures.parts)

pub returns-in-Ok-clause-reach : goal.returns-in-Ok-clause-reach
returns-in-Ok-clause-reach c set all =
    let own = card_built c.args.layout.now c.args.c.now.relation c.args.c.now.args _ _ c.as_slice.result.now _ _ c.requires.shape c.items-2.ensures c.as_slice.ensures.value c.in-Ok.ensures in
    c.build.ensures.reach set (bits_pass c.args.layout.now _ _ set own.bits_are all)

pub returns-in-Err-clause-parts : goal.returns-in-Err-clause-parts
returns-in-Err-clause-parts c =
    let there = card_there c.cardinalities_have_words.ensures c.args.layout.now c.args.p.now.kinds c.args.c.now.relation c.args.c.now.args c.obeys_order.ensures c.requires.layout c.requires.shape c.requires.fits.args in
    (there.0, there.1, no_news _ (λ V. IsPartOf V there.0))
