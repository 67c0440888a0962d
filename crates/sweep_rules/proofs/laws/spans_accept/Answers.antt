use Rattle.sweep_rules.proofs.Reading.{accepts-span_of}
use Rattle.sweep_rules.proofs.laws.spans_accept.Goals as goal

pub returns : goal.returns
returns g c = λ s front middle back. accepts-span_of (g.S.Shape.rules s) front middle back
