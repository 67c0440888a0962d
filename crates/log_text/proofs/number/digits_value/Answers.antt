use Rattle.log_text.proofs.NumberLaws.{past_limit}
use Rattle.log_text.proofs.number.digits_value.Goals as goal

pub returns-then-value-limit-clause-none : goal.returns-then-value-limit-clause-none
returns-then-value-limit-clause-none c = λ h. past_limit _ _ _ _ _ c.loop-digit-test.true c.loop-digit.invariant.1 c.from.ensures c.if-value-limit.true
