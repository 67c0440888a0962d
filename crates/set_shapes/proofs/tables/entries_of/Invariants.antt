use Rattle.std.proofs.Common.{◌≡◌, ◌++◌, drop}
use Rattle.set_shapes.specs.Tables.{entries_of}
use Rattle.set_shapes.proofs.tables.entries_of.Given as goal

abbrev pub invariant-loop-place : goal.invariant-loop-place
invariant-loop-place l = l.entries.items ++ entries_of l.operands l.elements (drop l.place-index l.places) ≡ entries_of l.operands l.elements l.places
