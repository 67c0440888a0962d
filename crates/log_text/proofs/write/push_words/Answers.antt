use Rattle.log_text.proofs.WriteLaws.{axiom_written, answer_written, resolvent_written}
use Rattle.log_text.proofs.write.push_words.Goals as goal

pub returns-in_ok-push_numbers-in-Axiom-clause-ok : goal.returns-in_ok-push_numbers-in-Axiom-clause-ok
returns-in_ok-push_numbers-in-Axiom-clause-ok c =
    axiom_written _ _ _ _ _ _ _ _ _ _ c.in-Axiom.is c.items.ensures c.in_ok-push_text-in-Axiom.ensures.ok c.in_ok-push_numbers-in-Axiom.ensures.ok c.push_sides.ensures.ok

pub returns-in_ok-push_text-in-Answer-2-clause-ok : goal.returns-in_ok-push_text-in-Answer-2-clause-ok
returns-in_ok-push_text-in-Answer-2-clause-ok c =
    answer_written _ _ _ _ _ _ _ _ _ _ _ _ _ c.in-Answer.is c.items-in-Answer.ensures c.items-in-Answer-2.ensures c.in_ok-push_text-in-Answer.ensures.ok c.in_ok-push_numbers-in-Answer.ensures.ok
    c.in_ok-push_values-in-Answer.ensures.ok c.in_ok-push_text-in-Answer-2.ensures.ok c.push_sides-in-Answer.ensures.ok

pub returns-in_ok-push_numbers-in-Resolvent-clause-ok : goal.returns-in_ok-push_numbers-in-Resolvent-clause-ok
returns-in_ok-push_numbers-in-Resolvent-clause-ok c =
    resolvent_written _ _ _ _ _ _ _ _ _ _ _ _ c.in-Resolvent.is c.items-in-Resolvent.ensures c.in_ok-push_text-in-Resolvent.ensures.ok c.in_ok-push_numbers-in-Resolvent.ensures.ok
    c.push_sides-in-Resolvent.ensures.ok
