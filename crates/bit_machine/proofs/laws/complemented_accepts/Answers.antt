use Rattle.bit_machine.proofs.Reading.{accepts-complemented}
use Rattle.bit_machine.proofs.laws.complemented_accepts.Goals as goal

pub returns : goal.returns
returns g c rules bits w = accepts-complemented rules bits w
