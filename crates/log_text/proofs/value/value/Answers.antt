use Rattle.log_text.proofs.ReadLaws.{passed_on, no_value_in_braces}
use Rattle.log_text.proofs.value.value.Goals as goal

pub returns-in_err-set-in-Some-in_braces-clause-bad : goal.returns-in_err-set-in-Some-in_braces-clause-bad
returns-in_err-set-in-Some-in_braces-clause-bad c = λ bad value fits is.
    no_value_in_braces _ _ c.in-Some-in_braces.ensures.some
    (λ elements set. c.in_err-set-in-Some-in_braces.ensures.bad (passed_on _ _ _ c.from_residual.ensures.1 bad) elements set)
    value fits is
