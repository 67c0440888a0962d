-- Parts lead to the place, and the tokens so far are those among them.
use Rattle.std.proofs.Common.{◌-◌, length}
use Rattle.fzn_reader.proofs.Scans.{ReadsTo}
use Rattle.fzn_reader.proofs.lexer.lex.Given as goal

abbrev pub invariant-loop-from : goal.invariant-loop-from
invariant-loop-from l = ReadsTo l.text l.tokens.items l.from

abbrev pub decreases-loop-from : goal.decreases-loop-from
decreases-loop-from l = length l.text - l.from
