use Rattle.diagram_arena.specs.Arena.{table}
use Rattle.diagram_ops.specs.Words.{product_of}
use Rattle.exact_steps.specs.Work.{IsProjecting}
use Rattle.exact_steps.proofs.projecting.projected.Given as goal

abbrev pub invariant-loop-v : goal.invariant-loop-v
invariant-loop-v l = IsProjecting l.layout l.scope (product_of (table l.initial.ops.arena) l.constraint l.own) l.domains l.initial.ops l.v-index l.ops l.kept.items
