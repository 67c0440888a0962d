use Rattle.box_clauses.proofs.Knowing.{known_after}
use Rattle.box_clauses.proofs.index.BoxIndex.insert.Goals as goal

pub returns-clause-known : goal.returns-clause-known
returns-clause-known c xs = known_after xs c.args.self.now.lists.keys c.insert.new.self.keys c.args.key c.in_ok-insert.ensures.keys
