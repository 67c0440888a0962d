use Rattle.std.proofs.Common.{◌≡◌, take}
use Rattle.bit_layout.specs.Words.{number}
use Rattle.bit_layout.proofs.words.number_of.Given as goal

abbrev pub invariant-loop-digit : goal.invariant-loop-digit
invariant-loop-digit l = l.number ≡ number (take l.digit-index l.word)
