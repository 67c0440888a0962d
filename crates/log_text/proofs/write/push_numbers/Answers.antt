use Rattle.log_text.proofs.WriteLaws.{begins_through}
use Rattle.log_text.proofs.write.push_numbers.Goals as goal

pub returns-in_err-push_number-clause-begins : goal.returns-in_err-push_number-clause-begins
returns-in_err-push_number-clause-begins c = begins_through _ _ _ _ c.loop-number.invariant c.in_err-push_number.ensures.begins
