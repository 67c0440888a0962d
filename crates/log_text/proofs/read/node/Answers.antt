use Rattle.log_text.proofs.ReadLaws.{passed_on, tail_two}
use Rattle.log_text.proofs.read.node.Goals as goal

pub returns-in_err-lo-clause-bad : goal.returns-in_err-lo-clause-bad
returns-in_err-lo-clause-bad c = λ bad number place lo hi fits is.
    c.in_err-lo.ensures.bad (passed_on _ _ _ c.from_residual-in_err-lo.ensures.1 bad) lo hi _ fits.2 fits.3 (tail_two c.in_ok-number.ensures.ok.2 is)
