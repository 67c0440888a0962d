use Rattle.std.proofs.Common.{◌≡◌, length}
use Rattle.constraint_queue.specs.Waiting.{AreReadersOf}
use Rattle.constraint_queue.proofs.readers.readers_of.Given as goal

abbrev pub invariant-loop-c : goal.invariant-loop-c
invariant-loop-c l = record {
  long : length l.readers.items ≡ l.variables;
  readers : AreReadersOf l.c l.scopes l.readers.items;
}
