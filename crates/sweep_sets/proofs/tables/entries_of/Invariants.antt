use Rattle.std.proofs.Common.{◌≡◌, ◌++◌, drop}
use Rattle.sweep_sets.specs.Tables.{entries_of}
use Rattle.sweep_sets.proofs.tables.entries_of.Given as goal

abbrev pub invariant-loop-place : goal.invariant-loop-place
invariant-loop-place l = l.entries.items ++ entries_of l.operands l.elements (drop l.place-index l.places) ≡ entries_of l.operands l.elements l.places
