use Rattle.std.proofs.Common.{refl}
use Rattle.search_rules.proofs.turns.the_first_state_is_legal.Goals as goal

pub returns : goal.returns
returns g c = record { trail = record { replays = refl; reasons = tt }; safe = λ b stored. absurd stored; walked = tt }
