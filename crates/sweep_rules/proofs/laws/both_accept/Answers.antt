use Rattle.sweep_rules.proofs.Reading.{accepts-both}
use Rattle.sweep_rules.proofs.laws.both_accept.Goals as goal

pub returns : goal.returns
returns g c = λ m n bits. accepts-both (g.M.Shape.rules m) (g.N.Shape.rules n) bits
