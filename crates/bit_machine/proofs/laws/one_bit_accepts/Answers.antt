use Rattle.bit_machine.proofs.Reading.{accepts-bit_at}
use Rattle.bit_machine.proofs.laws.one_bit_accepts.Goals as goal

pub returns : goal.returns
returns c place bits w within = accepts-bit_at place bits w within
