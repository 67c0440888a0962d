use Rattle.std.proofs.lemmas.Bool.{ltb-true}
use Rattle.sweep_counts.proofs.Sizes.{past_is_lost}
use Rattle.sweep_counts.proofs.count.CountShape.is_lost.Goals as goal

pub returns : goal.returns
returns c = λ yes. past_is_lost c.args.self.now.size c.args.state (ltb-true c.args.self.now.size c.args.state yes)
