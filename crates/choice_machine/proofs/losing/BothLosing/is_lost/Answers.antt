use Rattle.choice_machine.proofs.Losses.{first_lost, second_lost}
use Rattle.choice_machine.proofs.losing.BothLosing.is_lost.Goals as goal

pub returns-then-is_lost : goal.returns-then-is_lost
returns-then-is_lost g c h = first_lost (g.M.Machine.rules c.args.self.now.first) (g.N.Machine.rules c.args.self.now.second) c.args.at c.args.state (c.is_lost.ensures h)

pub returns-else-is_lost : goal.returns-else-is_lost
returns-else-is_lost g c h = second_lost (g.M.Machine.rules c.args.self.now.first) (g.N.Machine.rules c.args.self.now.second) c.args.at c.args.state (c.is_lost-else-is_lost.ensures h)
