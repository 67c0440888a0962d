use Rattle.std.proofs.Common.{subst}
use Rattle.desk.specs.Causes.{Faults}
use Rattle.check_top.specs.Endings.{verdict_status}
use Rattle.check_top.specs.Run.{Causes}
use Rattle.check_top.proofs.Runs.{log_not_begun, log_judged}
use Rattle.check_top.proofs.judging.check_log.Goals as goal

pub returns-in-Err : goal.returns-in-Err
returns-in-Err g c =
    log_not_begun c.args.problem c.args.name.now _ _ _ _ c.in-Err.ensures.err c.in-Err.ensures.cause.rose c.in-Err.ensures.cause.writes

pub returns : goal.returns
returns g c =
    let C : Faults → Type 0 = λ z. Causes (verdict_status c.judge-verdict.result) z (g.D.Desk.faults c.judge-verdict.new.desk) in
    log_judged c.args.problem c.args.name.now _ _ _ _ _ c.in_default.ensures.ok c.judge-verdict.ensures.takes c.judge-verdict.result _ _ c.judge-verdict.ensures.says
    (subst C c.in_default.ensures.cause.kept c.judge-verdict.ensures.causes) c.ending_of.ensures
