use Rattle.diagram_arena.specs.Arena.{table}
use Rattle.exact_steps.specs.Domains.{AreDomains}
use Rattle.step_tests.proofs.cases.put_all.Given as goal

abbrev pub invariant-loop-v : goal.invariant-loop-v
invariant-loop-v l = AreDomains l.layout (table l.ops.arena) l.domains.items
