use Rattle.propagators.proofs.Building.{arguments_known, failing_diagram, initial_leaves, failing_leaves}
use Rattle.propagators.proofs.reified.beyond.Goals as goal

pub initial_words-requires-clause-known : goal.initial_words-requires-clause-known
initial_words-requires-clause-known c = arguments_known c.args.layout.now c.args.p.now.kinds c.args.c.now c.args.variables.now c.requires.layout c.requires.fits c.requires.variables

pub returns-clause-diagram : goal.returns-clause-diagram
returns-clause-diagram c =
    failing_diagram c.args.layout.now c.args.c.now c.args.variables.now c.args.ops.now c.initial_words.new.ops c.diff.new.self c.in_ok-initial.initial c.args.holding c.diff.result c.obeys_order.ensures c.requires.variables
    c.in_ok-initial.ensures.diagram c.requires.holding c.initial_words.ensures.stays c.diff.ensures.words

pub returns-clause-leaves : goal.returns-clause-leaves
returns-clause-leaves c =
    failing_leaves c.args.layout.now c.args.c.now c.args.variables.now c.args.ops.now c.initial_words.new.ops c.diff.new.self c.in_ok-initial.initial c.args.holding c.obeys_order.ensures c.requires.variables
    c.in_ok-initial.ensures.diagram c.requires.holding c.initial_words.ensures.stays c.initial_words.ensures.parts c.diff.ensures.stays c.diff.ensures.parts

pub returns-in_err-initial-clause-leaves : goal.returns-in_err-initial-clause-leaves
returns-in_err-initial-clause-leaves c =
    initial_leaves c.args.layout.now c.args.c.now c.args.variables.now c.args.ops.now c.initial_words.new.ops c.requires.variables c.initial_words.ensures.stays c.initial_words.ensures.parts
