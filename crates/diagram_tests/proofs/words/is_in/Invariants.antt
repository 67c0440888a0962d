use Rattle.diagram_arena.specs.Table.{IsLive}
use Rattle.diagram_arena.specs.Arena.{table}
use Rattle.diagram_tests.proofs.words.is_in.Given as goal

abbrev pub invariant-loop : goal.invariant-loop
invariant-loop l = IsLive (table l.arena) l.at
