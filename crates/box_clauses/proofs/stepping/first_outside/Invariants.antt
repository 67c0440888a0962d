use Rattle.std.proofs.Common.{◌≡◌}
use Rattle.diagram_arena.specs.Arena.{table}
use Rattle.box_clauses.specs.Work.{AreHeldFrom}
use Rattle.box_clauses.proofs.stepping.first_outside.Given as goal

abbrev pub invariant-loop-at : goal.invariant-loop-at
invariant-loop-at l = record {
  held : AreHeldFrom l.layout (table l.initial.ops.arena) l.domains l.sides l.from l.at;
  same : l.ops ≡ l.initial.ops;
}
