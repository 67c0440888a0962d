use Rattle.std.proofs.Common.{sym, ◌∙◌, ap, ◌∷◌}
use Rattle.log_text.specs.Kind.{kind_word}
use Rattle.log_text.proofs.ReadLaws.{passed_on, kind_of, begins_with_kind, only_answer}
use Rattle.log_text.proofs.read.line.Goals as goal

pub returns-in_err-first_word-clause-bad : goal.returns-in_err-first_word-clause-bad
returns-in_err-first_word-clause-bad c = λ bad line fits is.
    let begins = begins_with_kind line in
    c.in_err-first_word.ensures.bad (passed_on _ _ _ c.from_residual.ensures.1 bad) (kind_of line) begins.0 (is ∙ begins.1)

pub returns-in-Answer-clause-bad : goal.returns-in-Answer-clause-bad
returns-in-Answer-clause-bad c = λ bad line fits is.
    only_answer line c.first_word.new.pieces fits
    (ap (λ kind. kind_word kind ∷ c.first_word.new.pieces) (sym c.in-Answer.is) ∙ sym c.in_ok-first_word.ensures.ok ∙ is)
    (λ number values sides. c.answer.ensures.bad bad number values sides)
