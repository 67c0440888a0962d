use Rattle.std.proofs.Common.{◌≡◌, length}
use Rattle.constraint_queue.specs.Waiting.{AreEmpty}
use Rattle.constraint_queue.proofs.readers.no_readers.Given as goal

abbrev pub invariant-loop-n : goal.invariant-loop-n
invariant-loop-n l = record { long : length l.readers.items ≡ l.n; empty : AreEmpty l.readers.items }
