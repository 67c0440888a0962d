use Rattle.search_moves.proofs.Sets.{same_alike, same_inside}
use Rattle.search_moves.proofs.reading.box_steps_read_what_leaves_their_sides.Goals as goal

pub returns-clause-same : goal.returns-clause-same
returns-clause-same g c = same_alike

pub returns-clause-inside : goal.returns-clause-inside
returns-clause-inside g c = same_inside
