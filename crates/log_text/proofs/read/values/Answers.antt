use Rattle.std.proofs.Common.{sym, ◌∙◌, ap, ◌++◌, map}
use Rattle.log_text.specs.Spelling.{value_word}
use Rattle.log_text.proofs.ReadLaws.{passed_on, no_values, no_bar}
use Rattle.log_text.proofs.read.values.Goals as goal

pub returns-in_err-value-clause-bad : goal.returns-in_err-value-clause-bad
returns-in_err-value-clause-bad c = λ bad values rest fit is.
    no_values c.loop-word.values.items values c.in-Some.word.now _ rest c.loop-word.invariant.0 fit
    (ap (λ ps. map value_word c.loop-word.values.items ++ ps) (sym c.in-Some.ensures) ∙ sym c.loop-word.invariant.1 ∙ is)
    (λ bar. let h = c.if-is_bar.ensures.1 bar in cc)
    (λ v. c.in_err-value.ensures.bad (passed_on _ _ _ c.from_residual.ensures.1 bad) v)

pub returns-clause-bad : goal.returns-clause-bad
returns-clause-bad c = λ bad values rest fit is.
    no_bar c.loop-word.values.items values rest c.loop-word.invariant.0
    (ap (λ ps. map value_word c.loop-word.values.items ++ ps) (sym c.in_default.ensures.0) ∙ sym c.loop-word.invariant.1 ∙ is)
