use Rattle.choice_machine.proofs.Losses.{settled_is_lost}
use Rattle.choice_machine.proofs.losing.LinearLosing.is_lost.Goals as goal

pub returns-in-Settled : goal.returns-in-Settled
returns-in-Settled c h = settled_is_lost c.args.self.now c.args._at c.args.state c.in-Settled.answer c.in-Settled.is h
