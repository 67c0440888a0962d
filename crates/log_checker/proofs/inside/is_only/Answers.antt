use Rattle.log_checker.proofs.Passing.{only_word}
use Rattle.log_checker.proofs.inside.is_only.Goals as goal

pub returns : goal.returns
returns c = only_word _ _ _ _ _ c.requires.long (λ x h. c.values_have_words.ensures.long _ x h) c.in_ok-leaves.ensures
