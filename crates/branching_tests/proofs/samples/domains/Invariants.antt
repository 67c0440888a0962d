use Rattle.diagram_arena.specs.Arena.{table}
use Rattle.branching_tests.specs.Gathered.{AreFirstDomains}
use Rattle.branching_tests.proofs.samples.domains.Given as goal

abbrev pub invariant-loop-i : goal.invariant-loop-i
invariant-loop-i l = AreFirstDomains l.layout (table l.ops.arena) l.i l.domains.items
