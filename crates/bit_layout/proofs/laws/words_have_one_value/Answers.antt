use Rattle.bit_layout.proofs.ValuesAt.{one_value_at}
use Rattle.bit_layout.proofs.laws.words_have_one_value.Goals as goal

pub returns : goal.returns
returns c = one_value_at
