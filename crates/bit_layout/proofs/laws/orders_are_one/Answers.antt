use Rattle.bit_layout.proofs.Sorting.{one_order}
use Rattle.bit_layout.proofs.laws.orders_are_one.Goals as goal

pub returns : goal.returns
returns c = one_order
