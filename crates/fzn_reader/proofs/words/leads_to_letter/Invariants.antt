-- What the rest leads to, the bytes lead to.
use Rattle.std.proofs.Common.{◌≡◌, drop}
use Rattle.fzn_reader.specs.Pieces.{leads_to_letter}
use Rattle.fzn_reader.proofs.words.leads_to_letter.Given as goal

abbrev pub invariant-loop-byte : goal.invariant-loop-byte
invariant-loop-byte l = leads_to_letter (drop l.byte-index l.bytes) ≡ leads_to_letter l.bytes
