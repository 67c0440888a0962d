use Rattle.bit_layout.proofs.ValuesAt.{set_at}
use Rattle.bit_layout.proofs.laws.words_of_sets_have_values.Goals as goal

pub returns : goal.returns
returns c = set_at
