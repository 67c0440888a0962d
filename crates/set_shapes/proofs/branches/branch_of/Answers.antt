use Rattle.set_shapes.proofs.OneBranch.{branch_tells}
use Rattle.set_shapes.proofs.branches.branch_of.Goals as goal

pub returns-clause-tells : goal.returns-clause-tells
returns-clause-tells c = branch_tells c.side_by_side_accepts.ensures c.args.layout.now c.args.bits.now c.args.index.now c.args.item.now c.args.set.now c.args.number (record { first = c.in_ok-first.first; second = c.in_ok-second.second }) c.in_ok-first.ensures.tells c.in_ok-second.ensures.tells
