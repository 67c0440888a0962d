use Rattle.std.proofs.Common.{◌∙◌}
use Rattle.std.proofs.lemmas.Result.{IfOk-weaker}
use Rattle.bit_layout.proofs.KindWords.{set_value}
use Rattle.bit_layout.proofs.words.set_of.Goals as goal

pub returns : goal.returns
returns c =
    IfOk-weaker _ _ _
    (λ set is. set_value c.args.universe.now c.args.word.now c.as_slice.result.now set c.requires.ascending c.requires.long (c.as_slice.ensures.value ∙ c.in_ok-elements.ensures) is)
    c.from_list.ensures.set
