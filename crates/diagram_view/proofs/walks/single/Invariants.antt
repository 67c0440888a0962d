use Rattle.std.proofs.Common.{◌≡◌, length}
use Rattle.diagram_arena.specs.Arena.{table}
use Rattle.diagram_view.proofs.Passing.{IsForcedTo}
use Rattle.diagram_view.proofs.walks.single.Given as goal

abbrev pub invariant-loop-bit : goal.invariant-loop-bit
invariant-loop-bit l = record { long : length l.word.items ≡ l.bit-index; so : IsForcedTo (table l.arena) l.fn.f l.bits l.word.items l.at }
