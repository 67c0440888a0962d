use Rattle.std.proofs.Common.{◌≡◌, ◌++◌, length}
use Rattle.std.specs.List.{AllByRecursion, flat_map}
use Rattle.log_text.specs.Spelling.{IsSide, side_words}
use Rattle.log_text.proofs.read.sides.Given as goal

abbrev pub invariant-loop-sides : goal.invariant-loop-sides
invariant-loop-sides l = AllByRecursion IsSide l.sides.items × (l.fn.pieces ≡ flat_map side_words l.sides.items ++ l.pieces)

abbrev pub decreases-loop-sides : goal.decreases-loop-sides
decreases-loop-sides l = length l.pieces
