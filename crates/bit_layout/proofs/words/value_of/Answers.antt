use Rattle.std.proofs.Common.{◌∙◌, ap, refl}
use Rattle.bit_layout.specs.Words.{width_of}
use Rattle.bit_layout.proofs.KindWords.{bool_value}
use Rattle.bit_layout.proofs.words.value_of.Goals as goal

pub returns-in-Bool-clause-some : goal.returns-in-Bool-clause-some
returns-in-Bool-clause-some c = rw c.in-Bool.is (bool_value c.args.word.now _ (c.requires.long ∙ ap width_of c.in-Bool.is) refl)
