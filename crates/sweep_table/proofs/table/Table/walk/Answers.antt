use Rattle.std.proofs.Common.{sym}
use Rattle.sweep_table.proofs.Walking.{walk_step, walk_falls, walk_ends}
use Rattle.sweep_table.proofs.table.Table.walk.Goals as goal

pub nodes-smaller : goal.nodes-smaller
nodes-smaller c =
    walk_falls c.args.self.now c.args.word.now c.nodes.at c.child-at.result c.in-Some.node c.obeys_rules.ensures (sym c.in-Some.ensures) c.child-at.ensures

pub nodes-preserved : goal.nodes-preserved
nodes-preserved c =
    walk_step c.args.self.now c.args.word.now c.args.n c.nodes.at c.child-at.result c.in-Some.node c.obeys_rules.ensures (sym c.in-Some.ensures) c.child-at.ensures c.nodes.invariant

pub returns-in-None : goal.returns-in-None
returns-in-None c = walk_ends c.args.self.now c.args.word.now c.args.n c.nodes.at (sym c.in-None.ensures) c.nodes.invariant
