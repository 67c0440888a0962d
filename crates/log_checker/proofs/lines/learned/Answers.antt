use Rattle.log_rules.specs.declared.reasons.Reason.TheVariants as reason
use Rattle.log_checker.proofs.Verdicts.{is_first, one_more, all_kept, learned_first, learned_rest, is_there, not_there}
use Rattle.log_checker.proofs.lines.learned.Goals as goal

pub returns-in-Some : goal.returns-in-Some
returns-in-Some c = all_kept _ _ _ (learned_rest _ _ _ (one_more _ _ _ reason.Boxes (learned_first _ _ _ c.requires.before) (is_there _ _ c.in-Some.ensures.some)))

pub returns-in-None : goal.returns-in-None
returns-in-None c = is_first _ _ _ reason.Boxes (learned_first _ _ _ c.requires.before) (λ h. not_there _ c.in-None.ensures.none h)
