use Rattle.fzn_model.proofs.Parts.{known_name, unknown_name}
use Rattle.fzn_model.proofs.expressions.seen_in_name.Goals as goal

pub returns-in-None : goal.returns-in-None
returns-in-None c = λ naming name is. unknown_name naming c.args.shape c.args.at name (rw c.in-None.is at is)

pub returns-in-Some : goal.returns-in-Some
returns-in-Some c = λ naming name is.
    known_name naming c.args.shape c.args.at name c.in-Some.known.now c.unsuited.result (rw c.in-Some.is at is) c.unsuited.ensures
