use Rattle.propagators.proofs.Building.{truth_has_bit, literal_leaves, case_diagram, case_leaves}
use Rattle.propagators.proofs.reified.with_literal.Goals as goal

pub bit-requires : goal.bit-requires
bit-requires c = truth_has_bit c.args.layout.now c.args.v c.requires.boolean

pub returns-in_err-literal-clause-leaves : goal.returns-in_err-literal-clause-leaves
returns-in_err-literal-clause-leaves c =
    literal_leaves c.values_fit_together.ensures c.args.layout.now c.args.c.now c.args.v c.bit.result c.args.value c.args.ops.now c.literal.new.self c.obeys_order.ensures c.requires.truth c.requires.boolean c.bit.ensures.value
    c.literal.ensures.stays c.literal.ensures.parts

pub returns-clause-diagram : goal.returns-clause-diagram
returns-clause-diagram c =
    case_diagram c.values_fit_together.ensures c.args.layout.now c.args.c.now c.args.v c.bit.result c.args.value c.args.ops.now c.literal.new.self c.and.new.self c.in_ok-literal.literal c.args.related c.and.result c.obeys_order.ensures c.requires.truth
    c.requires.boolean c.bit.ensures.value c.literal.ensures.stays c.in_ok-literal.ensures.words c.requires.related c.and.ensures.words

pub returns-clause-leaves : goal.returns-clause-leaves
returns-clause-leaves c =
    case_leaves c.values_fit_together.ensures c.args.layout.now c.args.c.now c.args.v c.bit.result c.args.value c.args.ops.now c.literal.new.self c.and.new.self c.in_ok-literal.literal c.args.related c.obeys_order.ensures c.requires.truth c.requires.boolean
    c.bit.ensures.value c.literal.ensures.stays c.literal.ensures.parts c.in_ok-literal.ensures.words c.requires.related c.and.ensures.stays c.and.ensures.parts
