use Rattle.std.proofs.Common.{◌≡◌, ◌++◌}
use Rattle.bit_layout.specs.Words.{binary}
use Rattle.bit_layout.proofs.words.binary.Given as goal

abbrev pub invariant-loop-place : goal.invariant-loop-place
invariant-loop-place l = l.digits.items ++ binary l.place l.number ≡ binary l.width l.number
