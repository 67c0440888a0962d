use Rattle.diagram_arena.specs.Table.{IsLive}
use Rattle.diagram_arena.specs.Arena.{table}
use Rattle.shape_tests.proofs.cardinalities.listed.Given as goal

abbrev pub invariant-loop-values : goal.invariant-loop-values
invariant-loop-values l = IsLive (table l.ops.arena) l.list
