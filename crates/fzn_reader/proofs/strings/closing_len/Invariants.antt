-- No front so far closes, and what follows decides.
use Rattle.fzn_reader.proofs.Closings.{GoesOn}
use Rattle.fzn_reader.proofs.strings.closing_len.Given as goal

abbrev pub invariant-loop-i : goal.invariant-loop-i
invariant-loop-i l = GoesOn l.bytes l.i l.escaped
