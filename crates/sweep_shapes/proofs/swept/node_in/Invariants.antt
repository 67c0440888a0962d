use Rattle.std.proofs.Common.{◌≡◌, drop}
use Rattle.sweep_shapes.specs.Slots.{node_in}
use Rattle.sweep_shapes.proofs.swept.node_in.Given as goal

abbrev pub invariant-loop-side : goal.invariant-loop-side
invariant-loop-side l = node_in (drop l.side-index l.sides) l.v ≡ node_in l.sides l.v
