use Rattle.diagram_arena.proofs.Meaning.{has-zero, has-one, depth-zero, depth-one, bit_end_is}
use Rattle.std.proofs.Common.{◌∙◌}
use Rattle.diagram_arena.proofs.laws.zero_and_one.Goals as goal

pub returns-clause-zero : goal.returns-clause-zero
returns-clause-zero c = has-zero

pub returns-clause-one : goal.returns-clause-one
returns-clause-one c = has-one

pub returns-clause-below : goal.returns-clause-below
returns-clause-below c = λ t. (depth-zero t ∙ bit_end_is, depth-one t ∙ bit_end_is)
