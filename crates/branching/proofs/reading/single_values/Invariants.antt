use Rattle.diagram_arena.specs.Arena.{table}
use Rattle.exact_steps.specs.Domains.{family}
use Rattle.branching.specs.Work.{AreValuesUpTo}
use Rattle.branching.proofs.reading.single_values.Given as goal

abbrev pub invariant-loop-i : goal.invariant-loop-i
invariant-loop-i l = AreValuesUpTo (family l.layout (table l.ops.arena) l.domains) l.i l.values.items
