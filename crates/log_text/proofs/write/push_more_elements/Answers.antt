use Rattle.log_text.proofs.WriteLaws.{begins_through}
use Rattle.log_text.proofs.write.push_more_elements.Goals as goal

pub returns-in_err-push_text-clause-begins : goal.returns-in_err-push_text-clause-begins
returns-in_err-push_text-clause-begins c = begins_through _ _ _ _ c.loop-element.invariant c.in_err-push_text.ensures.begins

pub returns-in_err-push_integer-clause-begins : goal.returns-in_err-push_integer-clause-begins
returns-in_err-push_integer-clause-begins c =
    begins_through _ _ _ _ c.loop-element.invariant (begins_through _ _ _ _ c.in_ok-push_text.ensures.ok c.in_err-push_integer.ensures.begins)
