use Rattle.log_text.proofs.ReadLaws.{passed_on, tail_two}
use Rattle.log_text.proofs.read.resolvent.Goals as goal

pub returns-in_err-right-clause-bad : goal.returns-in_err-right-clause-bad
returns-in_err-right-clause-bad c = λ bad number left right pivot sides fits is.
    c.in_err-right.ensures.bad (passed_on _ _ _ c.from_residual-in_err-right.ensures.1 bad) right pivot _ fits.2 fits.3 (tail_two c.in_ok-number.ensures.ok.2 is)
