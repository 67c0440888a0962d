use Rattle.log_rules.proofs.Firsts.{one_refusal, refused_is_not_valid}
use Rattle.log_rules.proofs.laws.refusals_are_one.Goals as goal

pub returns-clause-one : goal.returns-clause-one
returns-clause-one c s text first second a b = one_refusal c.args.p.now s text first second c.spellings_are_apart.ensures.lines a b

pub returns-clause-valid : goal.returns-clause-valid
returns-clause-valid c s text reason line refused reads valid =
    refused_is_not_valid c.args.p.now s text reason line c.spellings_are_apart.ensures.lines refused reads valid
