use Rattle.std.proofs.Common.{◌≡◌, Bool, List, length}
use Rattle.diagram_arena.specs.Arena.{table}
use Rattle.diagram_view.proofs.Passing.{IsForcedTo}
use Rattle.diagram_view.proofs.walks.first_open.Given as goal

abbrev pub invariant-loop-i : goal.invariant-loop-i
invariant-loop-i l = (p : List Bool) × (length p ≡ l.i) × IsForcedTo (table l.arena) l.fn.f l.bits p l.at
