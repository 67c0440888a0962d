use Rattle.bit_layout.proofs.Numbers.{bit_width_is_least}
use Rattle.bit_layout.proofs.laws.widths_are_least.Goals as goal

pub returns : goal.returns
returns c = bit_width_is_least
