use Rattle.box_clauses.proofs.Cutting.{side_at}
use Rattle.box_clauses.proofs.stepping.first_outside.Goals as goal
