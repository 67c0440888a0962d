use Rattle.linear_machine.proofs.Reading.{accepts_sum}
use Rattle.linear_machine.proofs.laws.accepts_by_its_sum.Goals as goal

pub returns : goal.returns
returns c m bits w = accepts_sum m bits w
