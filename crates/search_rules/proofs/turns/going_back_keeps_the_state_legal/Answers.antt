use Rattle.search_rules.proofs.TrailLemmas.{cut_trail}
use Rattle.search_rules.proofs.turns.going_back_keeps_the_state_legal.Goals as goal

pub returns : goal.returns
returns g c answers boxes es f k legal =
    record { trail = cut_trail k legal.trail; safe = legal.safe; walked = legal.walked }
