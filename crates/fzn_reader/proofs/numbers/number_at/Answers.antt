-- A number behind a `-`, or one without.
use Rattle.std.proofs.lemmas.List.{take_rest}
use Rattle.std.proofs.lemmas.Bool.{ne_eqb}
use Rattle.fzn_reader.specs.Pieces.{number_piece, unsigned_piece}
use Rattle.fzn_reader.proofs.Fronts.{found_by}
use Rattle.fzn_reader.proofs.LongestNumbers.{minus_found, minus_none, unsigned_front}
use Rattle.fzn_reader.proofs.numbers.number_at.Goals as goal
use Rattle.std.proofs.Common.{false}

pub returns-then-first-ne45-clause-found : goal.returns-then-first-ne45-clause-found
returns-then-first-ne45-clause-found c =
    let text = c.args.text.now in
    found_by (unsigned_piece false) number_piece text (unsigned_front text (λ _. ne_eqb _ 45 c.if-first-ne45.true)) _ c.unsigned_at.ensures.found

pub returns-in_err-piece-clause-none : goal.returns-in_err-piece-clause-none
returns-in_err-piece-clause-none c =
    let text = c.args.text.now in
    rw c.from_residual.ensures (minus_none text c.in-len1-up.len_at_least c.if-first-ne45.false (rw (take_rest text 1) at c.in_err-piece.ensures.none))

pub returns-clause-found : goal.returns-clause-found
returns-clause-found c =
    let text = c.args.text.now in
    minus_found text c.in_ok-piece.len c.in_ok-piece.piece c.in-len1-up.len_at_least c.if-first-ne45.false (rw (take_rest text 1) at c.in_ok-piece.ensures.found)
