use Rattle.search_rules.proofs.StateLemmas.{safe_box_legal}
use Rattle.search_rules.proofs.turns.safe_box_keeps_the_state_legal.Goals as goal

pub returns : goal.returns
returns g c answers boxes es f b legal safe = safe_box_legal b legal safe
