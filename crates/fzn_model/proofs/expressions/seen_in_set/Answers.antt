use Rattle.fzn_model.proofs.Parts.{set_seen}
use Rattle.fzn_model.proofs.expressions.seen_in_set.Goals as goal

pub returns : goal.returns
returns c = λ naming.
    rw (c.earlier.ensures, c.earlier-own.ensures)
    (set_seen naming c.args.shape c.args.at c.args.literal.now c.unsuited.result c.number_in_set.result c.in_ok-seen.seen
    (rw c.constant.ensures at c.unsuited.ensures) c.number_in_set.ensures c.in_ok-seen.ensures)
