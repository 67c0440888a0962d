use Rattle.diagram_arena.specs.Arena.{table}
use Rattle.node_reclaim.specs.Growth.{Stays}
use Rattle.exact_steps.specs.Domains.{AreDomains}
use Rattle.step_tests.proofs.compiled.tell.Given as goal

abbrev pub invariant-loop-number : goal.invariant-loop-number
invariant-loop-number l = record {
  stays : Stays l.initial.ops l.ops;
  domains_are : AreDomains l.layout (table l.ops.arena) l.domains.items;
}
