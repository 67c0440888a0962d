use Rattle.std.proofs.Common.{◌≡◌, length}
use Rattle.diagram_arena.specs.Arena.{table}
use Rattle.diagram_view.specs.Words.{words_over}
use Rattle.diagram_view.proofs.Leveling.{IsLevel, EverySoFar, SomeSoFar}
use Rattle.diagram_view.proofs.word_bounds.marks.Given as goal

abbrev pub invariant-loop-bit : goal.invariant-loop-bit
invariant-loop-bit l = record {
  every_long : length l.every.items ≡ l.bit-index;
  some_long : length l.some.items ≡ l.bit-index;
  every : EverySoFar (words_over (table l.arena) l.fn.f l.bits) l.every.items;
  some : SomeSoFar (words_over (table l.arena) l.fn.f l.bits) l.some.items;
  level : IsLevel (table l.arena) l.fn.f l.bits l.bit-index l.level.items;
}
