-- The first byte tells which kind of piece can be there.
use Rattle.std.proofs.Common.{sym, ◌∙◌}
use Rattle.std.proofs.lemmas.Bool.{ne_eqb}
use Rattle.fzn_reader.specs.Pieces.{piece_of, number_piece, word_piece, separator_piece, string_piece, comment_piece, symbol_piece}
use Rattle.fzn_reader.proofs.Fronts.{found_by, none_by}
use Rattle.fzn_reader.proofs.FirstBytes.{number_front, word_front, separator_front, string_front, comment_front, symbol_front}
use Rattle.fzn_reader.proofs.pieces.piece_at.Goals as goal

pub returns-then-begins_number-clause-found : goal.returns-then-begins_number-clause-found
returns-then-begins_number-clause-found c =
    found_by number_piece piece_of c.args.text.now (number_front c.args.text.now c.in-len1-up.len_at_least (sym c.begins_number.ensures ∙ c.if-begins_number.true)) _ c.number_at.ensures.found

pub returns-then-begins_number-clause-none : goal.returns-then-begins_number-clause-none
returns-then-begins_number-clause-none c =
    none_by number_piece piece_of c.args.text.now (number_front c.args.text.now c.in-len1-up.len_at_least (sym c.begins_number.ensures ∙ c.if-begins_number.true)) _ c.number_at.ensures.none

pub returns-then-begins_word-clause-found : goal.returns-then-begins_word-clause-found
returns-then-begins_word-clause-found c =
    found_by word_piece piece_of c.args.text.now (word_front c.args.text.now c.in-len1-up.len_at_least (sym c.begins_word.ensures ∙ c.if-begins_word.true) (sym c.begins_number.ensures ∙ c.if-begins_number.false)) _ c.word_at.ensures.found

pub returns-then-begins_word-clause-none : goal.returns-then-begins_word-clause-none
returns-then-begins_word-clause-none c =
    none_by word_piece piece_of c.args.text.now (word_front c.args.text.now c.in-len1-up.len_at_least (sym c.begins_word.ensures ∙ c.if-begins_word.true) (sym c.begins_number.ensures ∙ c.if-begins_number.false)) _ c.word_at.ensures.none

pub returns-then-is_separator-clause-found : goal.returns-then-is_separator-clause-found
returns-then-is_separator-clause-found c =
    found_by separator_piece piece_of c.args.text.now (separator_front c.args.text.now c.in-len1-up.len_at_least (sym c.is_separator.ensures ∙ c.if-is_separator.true) (sym c.begins_number.ensures ∙ c.if-begins_number.false) (sym c.begins_word.ensures ∙ c.if-begins_word.false)) _ c.separators_at.ensures.found

pub returns-then-first-eq34-clause-found : goal.returns-then-first-eq34-clause-found
returns-then-first-eq34-clause-found c =
    found_by string_piece piece_of c.args.text.now (string_front c.args.text.now c.in-len1-up.len_at_least c.if-first-eq34.true) _ c.string_at.ensures.found

pub returns-then-first-eq37-clause-found : goal.returns-then-first-eq37-clause-found
returns-then-first-eq37-clause-found c =
    found_by comment_piece piece_of c.args.text.now (comment_front c.args.text.now c.in-len1-up.len_at_least c.if-first-eq37.true) _ c.comment_at.ensures.found

pub returns-else-first-eq37-clause-found : goal.returns-else-first-eq37-clause-found
returns-else-first-eq37-clause-found c =
    found_by symbol_piece piece_of c.args.text.now (symbol_front c.args.text.now c.in-len1-up.len_at_least (sym c.begins_number.ensures ∙ c.if-begins_number.false) (sym c.begins_word.ensures ∙ c.if-begins_word.false) (sym c.is_separator.ensures ∙ c.if-is_separator.false) (ne_eqb _ 34 c.if-first-eq34.false) (ne_eqb _ 37 c.if-first-eq37.false)) _ c.symbol_at.ensures.found

pub returns-else-first-eq37-clause-none : goal.returns-else-first-eq37-clause-none
returns-else-first-eq37-clause-none c =
    none_by symbol_piece piece_of c.args.text.now (symbol_front c.args.text.now c.in-len1-up.len_at_least (sym c.begins_number.ensures ∙ c.if-begins_number.false) (sym c.begins_word.ensures ∙ c.if-begins_word.false) (sym c.is_separator.ensures ∙ c.if-is_separator.false) (ne_eqb _ 34 c.if-first-eq34.false) (ne_eqb _ 37 c.if-first-eq37.false)) _ c.symbol_at.ensures.none
