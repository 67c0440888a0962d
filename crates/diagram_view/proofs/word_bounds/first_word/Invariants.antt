use Rattle.std.proofs.Common.{◌≡◌, length}
use Rattle.diagram_arena.specs.Arena.{table}
use Rattle.diagram_view.proofs.Firsts.{IsTakenTo}
use Rattle.diagram_view.proofs.word_bounds.first_word.Given as goal

abbrev pub invariant-loop-bit : goal.invariant-loop-bit
invariant-loop-bit l = record { long : length l.word.items ≡ l.bit-index; so : IsTakenTo (table l.arena) l.fn.f l.bits l.value l.word.items l.at }
