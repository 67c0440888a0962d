use Rattle.log_text.proofs.WriteLaws.{begins_through}
use Rattle.log_text.proofs.write.push_sides.Goals as goal

pub returns-in_err-push_number-clause-begins : goal.returns-in_err-push_number-clause-begins
returns-in_err-push_number-clause-begins c = begins_through _ _ _ _ c.loop-variable.invariant c.in_err-push_number.ensures.begins

pub returns-in_err-push_number-2-clause-begins : goal.returns-in_err-push_number-2-clause-begins
returns-in_err-push_number-2-clause-begins c =
    begins_through _ _ _ _ c.loop-variable.invariant (begins_through _ _ _ _ c.in_ok-push_number.ensures.ok c.in_err-push_number-2.ensures.begins)
