use Rattle.sweep_table.proofs.Walking.{side_accepts}
use Rattle.sweep_table.proofs.laws.sides_accept.Goals as goal

pub returns : goal.returns
returns c = side_accepts
