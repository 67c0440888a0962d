use Rattle.search_moves.proofs.Sets.{narrowed_part}
use Rattle.search_moves.proofs.moving.box_narrowing_is_a_part.Goals as goal

pub returns : goal.returns
returns g c b f v s narrowed = narrowed_part b f v s narrowed
