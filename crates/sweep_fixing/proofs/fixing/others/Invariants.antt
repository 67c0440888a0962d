use Rattle.std.proofs.Common.{◌≡◌, ◌++◌, map, drop}
use Rattle.sweep_fixing.specs.Fixing.{others}
use Rattle.sweep_fixing.proofs.fixing.others.Given as goal

abbrev pub invariant-loop-side : goal.invariant-loop-side
invariant-loop-side l = l.left.items ++ others l.v.0 (drop l.side-index l.sides) ≡ others l.v.0 l.sides
