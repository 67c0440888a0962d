use Rattle.diagram_ops.proofs.Same.{index_enter}
use Rattle.diagram_ops.proofs.pairs.Pairs.add.Goals as goal

pub invariant_of-self : goal.invariant_of-self
invariant_of-self c = record {
  indexed = index_enter c.push.new.self.pairs.items c.push.new.self.ids.entries c.enter.new.ids.entries c.args.pair c.in_ok-id.id c.enter.result c.push.new.self.indexed c.in_ok-id.ensures.at
      c.enter.ensures.ok c.enter.ensures.err;
}
