use Rattle.int_channel.proofs.Made.{branch_made}
use Rattle.int_channel.proofs.branches.branch_machine.Goals as goal

pub returns : goal.returns
returns c = branch_made c.side_by_side_accepts.ensures c.args.layout.now c.args.bits.now c.args.branch.now c.in_ok-first.first c.in_ok-second.second
    c.in_ok-first.ensures.places c.in_ok-second.ensures.places c.in_ok-first.ensures.accepts c.in_ok-second.ensures.accepts
