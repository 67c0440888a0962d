use Rattle.std.proofs.Common.{sym, ◌∙◌}
use Rattle.log_text.proofs.ReadLaws.{passed_on, after_bar, tail_one}
use Rattle.log_text.proofs.read.answer.Goals as goal

pub returns-in_err-sides-clause-bad : goal.returns-in_err-sides-clause-bad
returns-in_err-sides-clause-bad c = λ bad number values sides fits is.
    c.in_err-sides.ensures.bad (passed_on _ _ _ c.from_residual-in_err-sides.ensures.1 bad) sides fits.2
    (after_bar c.in_ok-values.values values _ _ c.in_ok-values.ensures.ok.0 fits.1 (sym c.in_ok-values.ensures.ok.1 ∙ tail_one c.in_ok-number.ensures.ok.1 is))
