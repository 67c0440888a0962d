use Rattle.bit_machine.proofs.Reading.{run_depends}
use Rattle.bit_machine.proofs.laws.accepts_by_its_bits_alone.Goals as goal

pub returns : goal.returns
returns g c rules bits set all = run_depends rules 0 rules.start bits set all
