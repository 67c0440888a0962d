use Rattle.std.proofs.Common.{refl}
use Rattle.solve_top.proofs.running.begin_command.Goals as goal

pub returns-in-Some-clause-begins : goal.returns-in-Some-clause-begins
returns-in-Some-clause-begins g c = rw c.in-Some.is c.read_and_answer.ensures.reads

pub returns-in-None-clause-begins : goal.returns-in-None-clause-begins
returns-in-None-clause-begins g c = rw c.in-None.is (record { ends = refl; state = refl; faults = refl })
