use Rattle.linear_machine.proofs.Places.{start_kept}
use Rattle.linear_machine.proofs.linear.LinearMachine.start.Goals as goal

pub returns-clause-first : goal.returns-clause-first
returns-clause-first c = start_kept c.self.inside c.args.self.now c.self.view_is c.self.invariant
