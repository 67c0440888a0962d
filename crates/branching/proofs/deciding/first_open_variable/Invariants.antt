use Rattle.diagram_arena.specs.Arena.{table}
use Rattle.exact_steps.specs.Domains.{family}
use Rattle.branching.specs.Decisions.{HaveOneValueBelow}
use Rattle.branching.proofs.deciding.first_open_variable.Given as goal

abbrev pub invariant-loop-i : goal.invariant-loop-i
invariant-loop-i l = HaveOneValueBelow l.i (family l.layout (table l.ops.arena) l.domains)
