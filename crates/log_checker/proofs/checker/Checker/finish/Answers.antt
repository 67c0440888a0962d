use Rattle.std.proofs.Common.{◌≡◌, ◌∙◌, Some, ap}
use Rattle.log_rules.specs.declared.reasons.End.TheVariants.{Complete}
use Rattle.log_checker.proofs.Taking.{closed_covers}
use Rattle.log_checker.proofs.checker.Checker.finish.Goals as goal

pub returns-in-Some-clause-covers : goal.returns-in-Some-clause-covers
returns-in-Some-clause-covers c is =
    let same : c.in-Some.end ≡ Complete = cc in
    rw (← c.self.view_is)
    (closed_covers c.self.inside.problem c.self.invariant.lines c.self.inside.earlier c.self.invariant.valid c.self.invariant.made (c.in-Some.is ∙ ap Some same)
    c.logs_grow_by_lines.ensures.end c.closed_logs_cover_all.ensures)
