use Rattle.search_rules.proofs.TrailLemmas.{trail_rest}
use Rattle.search_moves.proofs.moving.undoing_keeps_the_state_legal.Goals as goal

pub returns : goal.returns
returns g c answers boxes e es f legal =
    record { trail = trail_rest legal.trail; safe = legal.safe; walked = legal.walked }
