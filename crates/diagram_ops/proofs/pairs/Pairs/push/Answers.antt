use Rattle.diagram_ops.proofs.Meant.{extends_pushed}
use Rattle.diagram_ops.proofs.Same.{index_more}
use Rattle.diagram_ops.proofs.pairs.Pairs.push.Goals as goal

pub invariant_of-self : goal.invariant_of-self
invariant_of-self c = record {
  indexed = index_more c.args.self.now.pairs.items c.push.new.self.items c.args.self.now.ids.entries (extends_pushed _ _ c.args.pair _ c.push.ensures.items) c.args.self.now.indexed;
}

pub returns-clause-extends : goal.returns-clause-extends
returns-clause-extends c = extends_pushed c.args.self.now.pairs.items c.push.new.self.items c.args.pair _ c.push.ensures.items
