use Rattle.diagram_arena.specs.Arena.{table}
use Rattle.exact_steps.specs.Domains.{AreDomains}
use Rattle.branching_tests.proofs.turns.turns_from.Given as goal

abbrev pub invariant-loop : goal.invariant-loop
invariant-loop l = AreDomains l.layout (table l.ops.arena) l.own.items
