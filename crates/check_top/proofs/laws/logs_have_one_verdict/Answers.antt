use Rattle.check_top.proofs.OneVerdict.{not_both, accepted_once, refused_once}
use Rattle.check_top.proofs.laws.logs_have_one_verdict.Goals as goal

pub returns-clause-one : goal.returns-clause-one
returns-clause-one c =
    not_both c.args.p.now c.spellings_are_apart.ensures.one_line c.spellings_are_apart.ensures.lines c.refusals_are_one.ensures.one c.refusals_are_one.ensures.valid
    c.logs_grow_by_lines.ensures.end

pub returns-clause-accepted : goal.returns-clause-accepted
returns-clause-accepted c = λ bytes end last answers count.
    accepted_once c.args.p.now c.spellings_are_apart.ensures.one_line c.spellings_are_apart.ensures.lines c.refusals_are_one.ensures.one c.refusals_are_one.ensures.valid
    c.logs_grow_by_lines.ensures.end bytes end last answers count c.spellings_are_apart.ensures.logs

pub returns-clause-refused : goal.returns-clause-refused
returns-clause-refused c =
    refused_once c.args.p.now c.spellings_are_apart.ensures.one_line c.spellings_are_apart.ensures.lines c.refusals_are_one.ensures.one c.refusals_are_one.ensures.valid
    c.logs_grow_by_lines.ensures.end
