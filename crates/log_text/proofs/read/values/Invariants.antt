use Rattle.std.proofs.Common.{◌≡◌, ◌++◌, length, map}
use Rattle.std.specs.List.{AllByRecursion}
use Rattle.log_text.specs.Spelling.{IsValue, value_word}
use Rattle.log_text.proofs.read.values.Given as goal

abbrev pub invariant-loop-word : goal.invariant-loop-word
invariant-loop-word l = AllByRecursion IsValue l.values.items × (l.fn.pieces ≡ map value_word l.values.items ++ l.pieces)

abbrev pub decreases-loop-word : goal.decreases-loop-word
decreases-loop-word l = length l.pieces
