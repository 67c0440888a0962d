use Rattle.diagram_arena.specs.Arena.{table}
use Rattle.exact_steps.specs.Domains.{variable}
use Rattle.propagation_tests.proofs.Filling.{three_sides}
use Rattle.propagation_tests.proofs.propagating.sides_of.Goals as goal

pub returns-clause-sides : goal.returns-clause-sides
returns-clause-sides c =
    let u = table c.set_of-3.new.ops.arena in
    let first = (c.value_sets_stay.ensures.grown c.args.layout.now (table c.set_of.new.ops.arena) (table c.set_of-2.new.ops.arena) (variable 0) c.in_ok-first.first c.set_of-2.ensures.stays.grows c.in_ok-first.ensures.set).0 in
    three_sides c.args.layout.now u c.in_ok-sides.sides.items c.in_ok-first.first c.in_ok-second.second c.in_ok-third.third c.requires.three
    (c.value_sets_stay.ensures.grown c.args.layout.now (table c.set_of-2.new.ops.arena) u (variable 0) c.in_ok-first.first c.set_of-3.ensures.stays.grows first).0
    (c.value_sets_stay.ensures.grown c.args.layout.now (table c.set_of-2.new.ops.arena) u (variable 1) c.in_ok-second.second c.set_of-3.ensures.stays.grows c.in_ok-second.ensures.set).0
    c.in_ok-third.ensures.set c.in_ok-sides.ensures.items
