use Rattle.std.proofs.Common.{eqb-true}
use Rattle.log_checker.proofs.Passing.{beyond_lost}
use Rattle.log_checker.proofs.shapes.BeyondShape.is_lost.Goals as goal

pub returns : goal.returns
returns c = λ h at rest.
    beyond_lost c.args.self.now.side.table.now c.args.self.now.side.root c.args.self.now.side.places.items c.args.state at rest (eqb-true c.args.state 1 h)
