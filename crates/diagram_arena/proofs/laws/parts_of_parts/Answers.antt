use Rattle.diagram_arena.proofs.Parts.{part_self, part_of_part}
use Rattle.diagram_arena.proofs.Reach.{part_depends}
use Rattle.diagram_arena.proofs.laws.parts_of_parts.Goals as goal

pub returns-clause-itself : goal.returns-clause-itself
returns-clause-itself c = part_self

pub returns-clause-again : goal.returns-clause-again
returns-clause-again c = part_of_part

pub returns-clause-depends : goal.returns-clause-depends
returns-clause-depends c = part_depends
