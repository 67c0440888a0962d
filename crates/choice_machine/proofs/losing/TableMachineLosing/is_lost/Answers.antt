use Rattle.choice_machine.proofs.Losses.{lost_is_lost}
use Rattle.choice_machine.proofs.losing.TableMachineLosing.is_lost.Goals as goal

pub returns-in-Lost : goal.returns-in-Lost
returns-in-Lost c h = lost_is_lost c.args.self.now c.args._at c.args.state c.in-Lost.is
