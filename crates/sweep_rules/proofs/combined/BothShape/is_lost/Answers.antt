use Rattle.sweep_rules.proofs.Reading.{lost_first, lost_second}
use Rattle.sweep_rules.proofs.combined.BothShape.is_lost.Goals as goal

pub returns-then-is_lost : goal.returns-then-is_lost
returns-then-is_lost g c =
    let first = g.M.Shape.rules c.args.self.now.first in
    let second = g.N.Shape.rules c.args.self.now.second in
    λ yes. lost_first first second c.args.state.0 c.args.state.1 (c.is_lost.ensures yes)

pub returns-else-is_lost : goal.returns-else-is_lost
returns-else-is_lost g c =
    let first = g.M.Shape.rules c.args.self.now.first in
    let second = g.N.Shape.rules c.args.self.now.second in
    λ yes. lost_second first second c.args.state.0 c.args.state.1 (c.is_lost-else-is_lost.ensures yes)
