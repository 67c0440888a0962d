use Rattle.bit_machine.proofs.Reading.{run-append}
use Rattle.bit_machine.proofs.laws.reads_in_pieces.Goals as goal

pub returns : goal.returns
returns g c rules at q front back w = run-append rules at q front back w
