-- Each turn reads the longest piece at its place.
use Rattle.std.proofs.lemmas.List.{take_rest}
use Rattle.fzn_reader.proofs.Scans.{one_end, reads_to_start, reads_to_more}
use Rattle.fzn_reader.proofs.lexer.lex.Goals as goal

pub loop-from-init : goal.loop-from-init
loop-from-init c = rw c.new-tokens.ensures.items (reads_to_start c.args.text.now)

pub returns-in_default-clause-one_end : goal.returns-in_default-clause-one_end
returns-in_default-clause-one_end c = one_end c.args.text.now

pub returns-in_err-append_piece-clause-one_end : goal.returns-in_err-append_piece-clause-one_end
returns-in_err-append_piece-clause-one_end c = one_end c.args.text.now

pub returns-clause-one_end : goal.returns-clause-one_end
returns-clause-one_end c = one_end c.args.text.now

pub loop-from-preserved : goal.loop-from-preserved
loop-from-preserved c =
    let text = c.args.text.now in
    let longest = rw (take_rest text c.loop-from.from) at c.in-Some.ensures.found in
    reads_to_more text c.loop-from.tokens.items _ c.loop-from.from c.in-Some.len c.in-Some.piece c.loop-from.invariant longest c.in_ok-append_piece.ensures.taken
