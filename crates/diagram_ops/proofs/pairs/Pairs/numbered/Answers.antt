use Rattle.std.proofs.Common.{sym, ◌∙◌}
use Rattle.diagram_ops.proofs.pairs.Pairs.numbered.Goals as goal

pub returns-in-Some-clause-at : goal.returns-in-Some-clause-at
returns-in-Some-clause-at c = c.args.self.now.indexed c.args.pair c.in-Some.id (sym (c.in-Some.ensures ∙ c.get.ensures.value))
