use Rattle.std.proofs.Common.{◌≡◌, ◌++◌, drop}
use Rattle.running_boxes.specs.Work.{removed_sides}
use Rattle.running_boxes.proofs.reasons.removed_sides.Given as goal

abbrev pub invariant-loop-u : goal.invariant-loop-u
invariant-loop-u l = record {
  rest : l.sides.items ++ removed_sides l.domains l.v l.removed (drop l.u-index l.scope) ≡ removed_sides l.domains l.v l.removed l.scope;
}
