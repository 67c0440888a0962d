use Rattle.diagram_arena.specs.Arena.{table}
use Rattle.diagram_view.proofs.Passing.{IsReadTo}
use Rattle.diagram_view.proofs.walks.has.Given as goal

abbrev pub invariant-loop-i : goal.invariant-loop-i
invariant-loop-i l = IsReadTo (table l.arena) l.fn.f l.bits l.word l.i l.at
