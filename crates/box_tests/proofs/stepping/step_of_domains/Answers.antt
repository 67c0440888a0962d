use Rattle.diagram_arena.specs.Arena.{table}
use Rattle.box_tests.proofs.TwoSides.{two_sides, two_domains}
use Rattle.box_tests.proofs.stepping.step_of_domains.Goals as goal

pub box_step-requires-clause-sides : goal.box_step-requires-clause-sides
box_step-requires-clause-sides c = two_sides c.args.layout.now (table c.args.ops.now.arena) _ c.args.sides.first c.args.sides.second c.requires.two c.requires.side c.requires.other_side c.as_slice.ensures

pub box_step-requires-clause-domains : goal.box_step-requires-clause-domains
box_step-requires-clause-domains c = two_domains c.args.layout.now (table c.args.ops.now.arena) _ c.args.domains.first c.args.domains.second c.requires.two c.requires.domain c.requires.other_domain c.as_slice-2.ensures
