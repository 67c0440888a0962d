use Rattle.log_rules.specs.declared.reasons.Reason.TheVariants as reason
use Rattle.log_checker.specs.Body.{log_of}
use Rattle.log_checker.proofs.Verdicts.{is_first, one_more, last_rule, close_first, close_answers, whole_test, is_there, not_there}
use Rattle.log_checker.proofs.lines.close.Goals as goal

pub holds_everything-requires-clause-sides : goal.holds_everything-requires-clause-sides
holds_everything-requires-clause-sides c = c.requires.ready.kept.sides _ _ c.in-Some.ensures.some

pub returns-in_ok-whole-in-Some : goal.returns-in_ok-whole-in-Some
returns-in_ok-whole-in-Some c =
    last_rule _ _ _ reason.Close _ _ c.unless.ensures
    (close_answers _ _ _ (one_more _ _ _ reason.Boxes (close_first _ _ _ c.requires.before) (is_there _ _ c.in-Some.ensures.some)))
    (whole_test c.args.check.now.problem.now (log_of c.args.check.now.earlier.now) c.args.number c.in-Some.sides.now _ c.in-Some.ensures.some c.in_ok-whole-in-Some.ensures) (λ k. k)

pub returns-in-None : goal.returns-in-None
returns-in-None c = is_first _ _ _ reason.Boxes (close_first _ _ _ c.requires.before) (λ h. not_there _ c.in-None.ensures.none h)
