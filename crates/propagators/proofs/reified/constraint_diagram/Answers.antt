use Rattle.diagram_arena.specs.Arena.{table}
use Rattle.scope_words.specs.Words.{variables_in}
use Rattle.propagators.specs.Units.{Relates}
use Rattle.propagators.proofs.Leaving.{leaves_then, parts_of_set}
use Rattle.propagators.proofs.Building.{relation_leaves, plain_diagram}
use Rattle.propagators.proofs.reified.constraint_diagram.Goals as goal

pub returns-in_err-holding-clause-leaves : goal.returns-in_err-holding-clause-leaves
returns-in_err-holding-clause-leaves c =
    relation_leaves c.args.layout.now c.args.c.now c.args.ops.now c.relation_diagram.new.ops c.relation_diagram.ensures.stays
    (parts_of_set c.args.layout.now (variables_in c.args.c.now.args) (Relates c.args.c.now) (table c.args.ops.now.arena) (table c.relation_diagram.new.ops.arena) c.relation_diagram.ensures.parts)

pub returns-in-None-clause-diagram : goal.returns-in-None-clause-diagram
returns-in-None-clause-diagram c = plain_diagram c.args.layout.now c.args.c.now (table c.relation_diagram.new.ops.arena) c.in_ok-holding.holding c.in-None.is c.in_ok-holding.ensures.diagram

pub returns-in-None-clause-leaves : goal.returns-in-None-clause-leaves
returns-in-None-clause-leaves c =
    relation_leaves c.args.layout.now c.args.c.now c.args.ops.now c.relation_diagram.new.ops c.relation_diagram.ensures.stays
    (parts_of_set c.args.layout.now (variables_in c.args.c.now.args) (Relates c.args.c.now) (table c.args.ops.now.arena) (table c.relation_diagram.new.ops.arena) c.relation_diagram.ensures.parts)

pub returns-in-Some-clause-leaves : goal.returns-in-Some-clause-leaves
returns-in-Some-clause-leaves c =
    leaves_then c.args.layout.now c.args.c.now c.args.ops.now c.relation_diagram.new.ops c.with_truth.new.ops
    (relation_leaves c.args.layout.now c.args.c.now c.args.ops.now c.relation_diagram.new.ops c.relation_diagram.ensures.stays
    (parts_of_set c.args.layout.now (variables_in c.args.c.now.args) (Relates c.args.c.now) (table c.args.ops.now.arena) (table c.relation_diagram.new.ops.arena) c.relation_diagram.ensures.parts))
    c.with_truth.ensures.leaves
