use Rattle.diagram_arena.specs.Arena.{table}
use Rattle.learn_search.specs.Way.{AreRowsAt}
use Rattle.learn_search.proofs.rows.rows.Given as goal

abbrev pub invariant-loop-v : goal.invariant-loop-v
invariant-loop-v l = AreRowsAt l.layout (table l.ops.arena) l.domains l.v l.rows.items
