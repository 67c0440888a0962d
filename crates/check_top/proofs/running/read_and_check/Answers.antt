use Rattle.check_top.proofs.Runs.{model_then_log}
use Rattle.check_top.proofs.running.read_and_check.Goals as goal

pub returns-in-Ok : goal.returns-in-Ok
returns-in-Ok g c = model_then_log c.args.model.now c.args.log.now _ _ _ _ _ _ c.in-Ok.problem _ _ c.in-Ok.ensures c.check_log.ensures

pub returns-in-Err : goal.returns-in-Err
returns-in-Err g c = c.in-Err.ensures c.args.log.now
