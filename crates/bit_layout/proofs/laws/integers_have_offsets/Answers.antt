use Rattle.bit_layout.proofs.KindWords.{offset_of_word}
use Rattle.bit_layout.proofs.laws.integers_have_offsets.Goals as goal

pub returns : goal.returns
returns c = offset_of_word
