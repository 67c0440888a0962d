use Rattle.diagram_arena.specs.declared.nodes.Ref.{Ref}
use Rattle.diagram_arena.specs.Table.{IsLive}
use Rattle.diagram_arena.specs.Arena.{table}
use Rattle.shape_tests.proofs.scalars.has_word.Given as goal

abbrev pub invariant-loop-bit : goal.invariant-loop-bit
invariant-loop-bit l = IsLive (table l.ops.arena) l.left × ((r : Ref) → IsLive (table l.initial.ops.arena) r → IsLive (table l.ops.arena) r)
