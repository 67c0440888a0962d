use Rattle.solve_top.proofs.Files.{begins_without_memory}
use Rattle.solve_top.proofs.running.begin.Goals as goal

pub returns-in-Ok-clause-begins : goal.returns-in-Ok-clause-begins
returns-in-Ok-clause-begins g c = rw (← c.in-Ok.ensures) c.begin_command.ensures.begins

pub returns-in-Err-clause-begins : goal.returns-in-Err-clause-begins
returns-in-Err-clause-begins g c = begins_without_memory _ _ _
