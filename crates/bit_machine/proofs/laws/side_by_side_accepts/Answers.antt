use Rattle.bit_machine.proofs.Reading.{accepts-side_by_side}
use Rattle.bit_machine.proofs.laws.side_by_side_accepts.Goals as goal

pub returns : goal.returns
returns g c join first second bits w = accepts-side_by_side join first second bits w
