use Rattle.search_rules.proofs.StateLemmas.{answer_legal}
use Rattle.search_rules.proofs.turns.answer_keeps_the_state_legal.Goals as goal

pub returns : goal.returns
returns g c answers boxes es f answer legal = answer_legal answer legal
