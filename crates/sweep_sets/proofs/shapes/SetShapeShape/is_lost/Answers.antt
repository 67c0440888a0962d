use Rattle.sweep_sets.proofs.Truth.{not_is_false}
use Rattle.std.proofs.Math.Bool.{beq}
use Rattle.sweep_sets.proofs.ReadElements.{settled_is_lost}
use Rattle.sweep_sets.proofs.shapes.SetShapeShape.is_lost.Goals as goal

pub returns-in-Settled : goal.returns-in-Settled
returns-in-Settled c = λ h at rest.
    let shape = c.args.self.now in
    settled_is_lost shape.rule shape.truth c.in-Settled.holds shape.constants shape.entries c.args.state c.in-Settled.is (not_is_false (beq c.in-Settled.holds shape.truth) h) at rest
