use Rattle.log_rules.proofs.Sound.{closed_covers}
use Rattle.log_rules.proofs.laws.closed_logs_cover_all.Goals as goal

pub returns : goal.returns
returns c log accepted = closed_covers c.args.p.now c.requires log accepted
