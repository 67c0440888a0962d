use Rattle.diagram_arena.specs.Arena.{table}
use Rattle.exact_steps.proofs.Wanted.{diagram_grows}
use Rattle.scope_words.specs.Words.{variables_in}
use Rattle.propagators.specs.Units.{Fails}
use Rattle.propagators.proofs.Leaving.{leaves_then}
use Rattle.propagators.proofs.Building.{true_diagram, false_diagram, whole_diagram, whole_leaves}
use Rattle.propagators.proofs.reified.cases_joined.Goals as goal

pub with_literal-requires-clause-related : goal.with_literal-requires-clause-related
with_literal-requires-clause-related c = true_diagram c.args.layout.now c.args.c.now (table c.args.ops.now.arena) c.args.holding c.requires.holding

pub with_literal-requires-2-clause-related : goal.with_literal-requires-2-clause-related
with_literal-requires-2-clause-related c =
    false_diagram c.args.layout.now c.args.c.now (table c.with_literal.new.ops.arena) c.args.failing
    (diagram_grows c.args.layout.now (variables_in c.args.c.now.args) (Fails c.args.c.now) (table c.args.ops.now.arena) (table c.with_literal.new.ops.arena) c.args.failing c.with_literal.ensures.leaves.stays.grows c.requires.failing)

pub returns-in_err-on_false-clause-leaves : goal.returns-in_err-on_false-clause-leaves
returns-in_err-on_false-clause-leaves c =
    leaves_then c.args.layout.now c.args.c.now c.args.ops.now c.with_literal.new.ops c.with_literal-2.new.ops c.with_literal.ensures.leaves c.with_literal-2.ensures.leaves

pub returns-clause-diagram : goal.returns-clause-diagram
returns-clause-diagram c =
    whole_diagram c.args.layout.now c.args.c.now c.args.v c.with_literal.new.ops c.with_literal-2.new.ops c.or.new.self c.in_ok-on_true.on_true c.in_ok-on_false.on_false c.or.result c.requires.truth
    c.in_ok-on_true.ensures.diagram c.with_literal-2.ensures.leaves.stays c.in_ok-on_false.ensures.diagram c.or.ensures.words

pub returns-clause-leaves : goal.returns-clause-leaves
returns-clause-leaves c =
    whole_leaves c.args.layout.now c.args.c.now c.args.v c.args.ops.now c.with_literal.new.ops c.with_literal-2.new.ops c.or.new.self c.in_ok-on_true.on_true c.in_ok-on_false.on_false c.requires.truth c.with_literal.ensures.leaves
    c.in_ok-on_true.ensures.diagram c.with_literal-2.ensures.leaves c.in_ok-on_false.ensures.diagram c.or.ensures.stays c.or.ensures.parts
