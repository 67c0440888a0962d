use Rattle.std.proofs.Common.{◌-◌}
use Rattle.sweep_rules.proofs.Reading.{lost_over}
use Rattle.sweep_rules.proofs.combined.SpanShape.is_lost.Goals as goal

pub returns : goal.returns
returns g c = λ yes at rest.
    let s = c.args.self.now in
    lost_over s.skip s.long (g.S.Shape.rules s.shape) at c.args.state rest (λ more. c.is_lost.ensures yes (at - s.skip) more)
